-- The numbers that shape a run.
use Rattle.std.specs.Prelude.{ℕ, Bool}

-- the sketch's k, a buffer's items, the updaters, the hash's seed, and whether few items are handed over immediately
pub record Sizes : Type 0 where
  pub k : ℕ
  pub b : ℕ
  pub n : ℕ
  pub seed : ℕ
  pub eager : Bool
