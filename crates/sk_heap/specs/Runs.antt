-- Words on the entries that stand after a place that was emptied, up to the next empty one.
use Rattle.std.specs.Prelude.{◌≡◌, ◌≢◌, ℕ, ◌+◌, ◌<◌, ◌≤◌, List}
use Rattle.sk_heap.specs.Table.{going_round}

-- the place `gap` steps after start is empty, and comes before the one at `step`
pub record IsHole (len : ℕ) (table : List ℕ) (start gap step : ℕ) : Type 0 where
  pub behind : gap < step
  pub empty : going_round len table (start + gap) ≡ 0

-- the entries after start are `last`, and then comes an empty place
pub record IsRun (len : ℕ) (table : List ℕ) (start last : ℕ) : Type 0 where
  pub within : last + 1 < len
  pub full : (c : ℕ) → 1 ≤ c → c ≤ last → going_round len table (start + c) ≢ 0
  pub end : going_round len table (start + (last + 1)) ≡ 0
