-- Where the cells of items lie, and one more in each.
use Rattle.std.specs.Prelude.{◌≡◌, ℕ, zero, suc, ◌+◌, ◌*◌, List, [], ◌∷◌, ◌++◌, flat_map, slice_index, slice_set}
use Rattle.sk_cms.specs.Estimate.{cell_of}

-- the places of the cells of x in the rows from 0 to rows - 1
unfoldable pub places_of : ℕ → ℕ → ℕ → List ℕ
places_of zero width x = []
places_of (suc r) width x = places_of r width x ++ (r * width + cell_of width r x) ∷ []

-- these are the places of all items, one item after another, in a sketch of this shape
abbrev pub ArePlacesOf : ℕ → ℕ → List ℕ → List ℕ → Type 0
ArePlacesOf rows width items places = places ≡ flat_map (places_of rows width) items

-- one more in the cell at a place
abbrev pub raised_once : List ℕ → ℕ → List ℕ
raised_once cells at = slice_set cells at (slice_index cells at + 1)
