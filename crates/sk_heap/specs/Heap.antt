-- Words on the heap of the kept hashes.
use Rattle.std.specs.Prelude.{◌≡◌, ℕ, ◌-◌, ◌/◌, ◌<◌, ◌≤◌, List, length, slice_index, ◌==◌}
use Rattle.std.specs.List.{count_by}

-- how often x stands in a list
abbrev pub times : ℕ → List ℕ → ℕ
times x xs = count_by (λ y. y == x) xs

-- the same members, each as often
abbrev pub HasSame : List ℕ → List ℕ → Type 0
HasSame xs ys = (x : ℕ) → times x xs ≡ times x ys

-- no number is above the one that stands halfway to the start
abbrev pub IsMaxHeap : List ℕ → Type 0
IsMaxHeap xs = (j : ℕ) → 1 ≤ j → j < length xs → slice_index xs j ≤ slice_index xs ((j - 1) / 2)
