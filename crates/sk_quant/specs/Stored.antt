-- The fields of a sketch as contracts see them.
use Rattle.std.specs.Prelude.{ℕ, ◌+◌, ◌*◌, ◌<◌, ◌≤◌, List, Vec, length, map, All, vec_capacity}
use Rattle.std.specs.List.Sorted.{IsNonDecreasing}
use Rattle.sk_quant.specs.Coins.{Coins}
use Rattle.sk_quant.specs.Held.{Held}
use Rattle.sk_quant.specs.Limits.{coin_end}
use Rattle.sk_quant.specs.Quantiles.{Quantiles, IsWholeQuantiles}

-- the items of each level
abbrev pub lists_of : {Z : Type 0} → List (Vec ℕ Z) → List (List ℕ)
lists_of levels = map (λ level. level.items) levels

-- what base, levels and coins hold
abbrev pub held_in : {Z : Type 0} → Vec ℕ Z → List (Vec ℕ Z) → Coins → Held
held_in base levels coins =
    record { base = base.items; levels = lists_of levels; place = coins.taken }

-- items can go up through these levels: each has at most k, which rise, and room for k, and coins are left
pub record CanCarry {Z : Type 0} (k : ℕ) (levels : List (Vec ℕ Z)) (coins : Coins) : Type 0 where
  pub short : All (λ level. (length level ≤ k) × IsNonDecreasing level) (lists_of levels)
  pub rooms : All (λ level. k ≤ vec_capacity level) levels
  pub coins_left : coins.taken + length levels < coin_end

-- what all fields show
abbrev pub shown_by : {Z : Type 0} → ℕ → ℕ → Vec ℕ Z → Vec (Vec ℕ Z) Z → Coins → Quantiles
shown_by k count base levels coins =
    record { k = k; key = coins.key; count = count; held = held_in base levels.items coins }

-- that is a sketch, and there is room for what may come
pub record AreStored {Z : Type 0} (k count : ℕ) (base : Vec ℕ Z) (levels : Vec (Vec ℕ Z) Z) (coins : Coins) : Type 0 where
  pub whole : IsWholeQuantiles (shown_by k count base levels coins)
  pub base_room : 2 * k ≤ vec_capacity base
  pub level_rooms : All (λ level. k ≤ vec_capacity level) levels.items
