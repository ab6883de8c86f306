-- What contracts see of a sketch.
use Rattle.std.specs.Prelude.{◌≡◌, ℕ, ◌-◌, ◌≤◌, nat_lt, if◌then◌else◌, List, length, slice_index}
use Rattle.std.specs.List.Sorted.{IsStrictlyIncreasing}
use Rattle.sk_model.specs.Sketch.{k_smallest}
use Rattle.sk_model.specs.Width.{item_end, AreItems}
use Rattle.sk_model.specs.Limits.{least_k, most_k}

-- its k, and the hashes that it keeps, rising
pub record Sketch : Type 0 where
  pub k : ℕ
  pub kept : List ℕ

-- a sketch stores no list of hashes: it stands for each list whose k smallest it keeps
abbrev pub StandsFor : Sketch → List ℕ → Type 0
StandsFor sketch hashes = sketch.kept ≡ k_smallest sketch.k hashes

-- what holds of every sketch
pub record IsWhole (sketch : Sketch) : Type 0 where
  pub least : least_k ≤ sketch.k
  pub most : sketch.k ≤ most_k
  pub rises : IsStrictlyIncreasing sketch.kept
  pub within : length sketch.kept ≤ sketch.k
  pub items : AreItems sketch.kept

-- theta as the kept hashes give it
abbrev pub theta_kept : ℕ → List ℕ → ℕ
theta_kept k kept = if nat_lt (length kept) k then item_end else slice_index kept (k - 1)
