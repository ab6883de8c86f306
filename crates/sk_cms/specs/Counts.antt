-- What contracts see of a sketch, and the lists that it stands for.
use Rattle.std.specs.Prelude.{◌≡◌, ◌≢◌, ℕ, zero, suc, ◌+◌, ◌*◌, ◌%◌, ◌<◌, ◌≤◌, List, [], ◌∷◌, length, replicate, All, bit_and, slice_index, slice_set}
use Rattle.sk_cms.specs.Estimate.{cell_of, cell_count}
use Rattle.sk_cms.specs.Limits.{most_counted, IsShape}

-- its rows and their width, how many items it was given, and the counts in its cells, row after row
pub record Counts : Type 0 where
  pub rows : ℕ
  pub width : ℕ
  pub count : ℕ
  pub cells : List ℕ

-- the count in cell c of row r
abbrev pub count_at : Counts → ℕ → ℕ → ℕ
count_at sketch r c = slice_index sketch.cells (r * sketch.width + c)

-- a sketch stores no list of items: it stands for each list that has as many members, and as many in each cell
pub record IsCountOf (sketch : Counts) (items : List ℕ) : Type 0 where
  pub count : sketch.count ≡ length items
  pub size : length sketch.cells ≡ sketch.rows * sketch.width
  pub cells : (r c : ℕ) → r < sketch.rows → c < sketch.width → count_at sketch r c ≡ cell_count sketch.width r c items

-- a sketch of no item
abbrev pub no_counts : ℕ → ℕ → Counts
no_counts rows width = record { rows = rows; width = width; count = 0; cells = replicate (rows * width) 0 }

-- one more in the cell of x in each of the rows from 0 to rows - 1
unfoldable pub raised : ℕ → ℕ → ℕ → List ℕ → List ℕ
raised zero width x cells = cells
raised (suc r) width x cells =
    let above = raised r width x cells in
    let at = r * width + cell_of width r x in
    slice_set above at (slice_index above at + 1)

-- what `update` leaves
abbrev pub counted : Counts → ℕ → Counts
counted sketch x = record sketch {
  count = sketch.count + 1;
  cells = raised sketch.rows sketch.width x sketch.cells;
}

-- what holds of every sketch
pub record IsWholeCounts (sketch : Counts) : Type 0 where
  pub shape : IsShape sketch.rows sketch.width
  pub count : sketch.count ≤ most_counted
  pub size : length sketch.cells ≡ sketch.rows * sketch.width
  pub small : All (λ cell. cell ≤ sketch.count) sketch.cells

-- ---- what the fields hold

-- the counts in cells, from the lower byte of each and how often that came round
unfoldable pub joined : List ℕ → List ℕ → List ℕ
joined [] high = []
joined (l ∷ low) [] = []
joined (l ∷ low) (h ∷ high) = (l + 256 * h) ∷ joined low high

-- what all fields show
abbrev pub shown_by : ℕ → ℕ → ℕ → List ℕ → List ℕ → Counts
shown_by rows width count low high =
    record { rows = rows; width = width; count = count; cells = joined low high }

-- a mask other than 0 takes a number's remainder by the width
abbrev pub IsMaskOf : ℕ → ℕ → Type 0
IsMaskOf width mask = mask ≢ 0 → (number : ℕ) → bit_and number mask ≡ number % width

-- the fields of a sketch
pub record AreStored (rows width mask count : ℕ) (low high : List ℕ) : Type 0 where
  pub masks : IsMaskOf width mask
  pub whole : IsWholeCounts (shown_by rows width count low high)
  pub sizes : length high ≡ length low
