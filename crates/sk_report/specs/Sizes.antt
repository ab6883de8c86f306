-- The sizes of the buffers of updaters, one after another.
use Rattle.std.specs.Prelude.{ℕ, ◌-◌, min, List, length, slice_index}

-- how many items a buffer of updater i holds: number i of the list, or the last one if there are fewer
abbrev pub size_at : List ℕ → ℕ → ℕ
size_at sizes i = slice_index sizes (min i (length sizes - 1))
