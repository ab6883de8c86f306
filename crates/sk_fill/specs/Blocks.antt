-- How a window is cut into blocks.
use Rattle.std.specs.Prelude.{ℕ, ◌+◌, ◌*◌, ◌/◌, List, length, slice_range, flat_map}

-- the place at which block i of n begins, and the one before it ends
abbrev pub place_of : ℕ → ℕ → ℕ → ℕ
place_of lines i n = i * lines / n

-- the lines of block i of n
abbrev pub block_of : List (List ℕ) → ℕ → ℕ → List (List ℕ)
block_of lines i n = slice_range lines (place_of (length lines) i n) (place_of (length lines) (i + 1) n)

-- the lines of block i of n of each of these windows, in order
abbrev pub blocks_of : List (List (List ℕ)) → ℕ → ℕ → List (List ℕ)
blocks_of windows i n = flat_map (λ lines. block_of lines i n) windows
