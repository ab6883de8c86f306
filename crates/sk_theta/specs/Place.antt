-- Where a hash stands among kept ones that rise.
use Rattle.std.specs.Prelude.{ℕ, ◌<◌, ◌≤◌, List, length, take, slice_index, All}

-- after those below it and before the others, which are above it
pub record IsPlace (hash : ℕ) (kept : List ℕ) (at : ℕ) : Type 0 where
  pub within : at ≤ length kept
  pub below : All (λ y. y < hash) (take at kept)
  pub above : at < length kept → hash < slice_index kept at
