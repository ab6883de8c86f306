-- What contracts see of a sketch.
use Rattle.std.specs.Prelude.{◌≡◌, ℕ, ◌+◌, ◌*◌, ◌/◌, ◌%◌, ◌<◌, ◌≤◌, List, [], ◌∷◌, length, fold}
use Rattle.std.specs.List.Sorted.{IsNonDecreasing}
use Rattle.sk_quant.specs.Coins.{coin_of}
use Rattle.sk_quant.specs.Held.{Held, held_with, held_after}
use Rattle.sk_quant.specs.Limits.{least_quantile_k, most_quantile_k, key_end, most_items, level_count}
use Rattle.sk_quant.specs.Ranks.{compactions}

-- its k and its key, how many items it was given, and what it holds of them
pub record Quantiles : Type 0 where
  pub k : ℕ
  pub key : ℕ
  pub count : ℕ
  pub held : Held

-- what `update` leaves
abbrev pub updated : Quantiles → ℕ → Quantiles
updated sketch x = record sketch {
  count = sketch.count + 1;
  held = held_with (coin_of sketch.key) sketch.k sketch.held x;
}

-- what `update_all` leaves
abbrev pub updated_all : Quantiles → List ℕ → Quantiles
updated_all sketch items = fold updated sketch items

-- a sketch stores no list of items: it is of each list that leaves what it holds
pub record IsSketchOf (sketch : Quantiles) (items : List ℕ) : Type 0 where
  pub count : sketch.count ≡ length items
  pub held : sketch.held ≡ held_after (coin_of sketch.key) sketch.k items

-- after the base went up this many times, a level has k rising items where its bit of that number is 1, else none
abbrev pub AreFilled : ℕ → ℕ → List (List ℕ) → Type 0
AreFilled k times [] = times ≡ 0
AreFilled k times (level ∷ levels) =
    (length level ≡ k * (times % 2)) × IsNonDecreasing level × AreFilled k (times / 2) levels

-- how much of `count` items lies where, and how many coins that took
pub record IsFilled (k count : ℕ) (held : Held) : Type 0 where
  pub base : length held.base ≡ count % (2 * k)
  pub levels : AreFilled k (count / (2 * k)) held.levels
  pub number : length held.levels ≡ level_count
  pub place : held.place ≡ compactions count k level_count

-- what holds of every sketch
pub record IsWholeQuantiles (sketch : Quantiles) : Type 0 where
  pub least : least_quantile_k ≤ sketch.k
  pub most : sketch.k ≤ most_quantile_k
  pub key : sketch.key < key_end
  pub count : sketch.count ≤ most_items
  pub filled : IsFilled sketch.k sketch.count sketch.held
