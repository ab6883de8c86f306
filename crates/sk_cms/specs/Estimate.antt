-- The Count-Min estimate of how often an item stands in a list (Cormode and Muthukrishnan, "An Improved Data Stream
-- Summary: The Count-Min Sketch and its Applications", Journal of Algorithms 55, 2005).
use Rattle.std.specs.Prelude.{ℕ, zero, suc, ◌%◌, ◌==◌, min, List, length, count_by}
use Rattle.std.specs.Int.{w64, to_le_bytes}
use Rattle.sk_model.specs.Murmur.{murmur128_of}

-- the cell of an item in row r: the first half of the hash of its eight bytes, low byte first, under the row's number
unfoldable pub cell_of : ℕ → ℕ → ℕ → ℕ
cell_of width r x = (murmur128_of r (to_le_bytes w64 x)).0 % width

-- how many members of a list lie in cell c of row r
abbrev pub cell_count : ℕ → ℕ → ℕ → List ℕ → ℕ
cell_count width r c items = count_by (λ y. cell_of width r y == c) items

-- the least, over the rows from 0 to rows - 1, of the number of members that lie in the cell of x; over no row all
unfoldable pub least_of : ℕ → ℕ → ℕ → List ℕ → ℕ
least_of zero width x items = length items
least_of (suc r) width x items = min (least_of r width x items) (cell_count width r (cell_of width r x) items)

-- how often x stands in a list
abbrev pub times : ℕ → List ℕ → ℕ
times x items = count_by (λ y. y == x) items
