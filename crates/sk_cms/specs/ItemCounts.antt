-- What contracts see of a sketch of which one item's estimate is published.
use Rattle.std.specs.Prelude.{ℕ, List, [], ◌∷◌, slice_index}
use Rattle.sk_cms.specs.Counts.{Counts}

-- the counts, and the item
pub record ItemCounts : Type 0 where
  pub counts : Counts
  pub item : ℕ

-- the fixed numbers of such a sketch
abbrev pub item_numbers : ℕ → ℕ → ℕ → List ℕ
item_numbers rows width item = rows ∷ width ∷ item ∷ []

-- the item of a sketch with these numbers
abbrev pub item_of : List ℕ → ℕ
item_of numbers = slice_index numbers 2
