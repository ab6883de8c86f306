-- The fixed numbers of a sketch.
use Rattle.std.specs.Prelude.{ℕ, List, slice_index}

-- k, where it is the first of them
abbrev pub k_of : List ℕ → ℕ
k_of numbers = slice_index numbers 0
