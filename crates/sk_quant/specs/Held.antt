-- What a sketch holds, and what one more item makes of that. It is the mergeable quantiles sketch of
-- Agarwal and others ("Mergeable Summaries", PODS 2012). A stream of coins is a function of the place.
use Rattle.std.specs.Prelude.{ℕ, ◌+◌, ◌*◌, nat_lt, ◌==◌, if◌then◌else◌, List, [], ◌∷◌, ◌++◌}
use Rattle.std.specs.Prelude.{length, fold, replicate}
use Rattle.sk_quant.specs.Coins.{coin_of}
use Rattle.sk_quant.specs.Limits.{level_count}
use Rattle.sk_quant.specs.Order.{in_order}
use Rattle.sk_quant.specs.Ranks.{weighted_rank}

-- a base of fewer than 2k items as they came, levels of nothing or k rising items each, the first of them
-- next to the base, and the place of the next coin
pub record Held : Type 0 where
  pub base : List ℕ
  pub levels : List (List ℕ)
  pub place : ℕ

-- what is held of no items
abbrev pub nothing_held : Held
nothing_held = record { base = []; levels = replicate level_count []; place = 0 }

-- half of the items: of each two the first, by coin 0, or else the second
unfoldable pub halved : ℕ → List ℕ → List ℕ
halved coin [] = []
halved coin (x ∷ []) = []
halved coin (x ∷ y ∷ items) = (if coin == 0 then x else y) ∷ halved coin items

-- rising items go up: the half that the coin takes goes to the next level. An empty one keeps it; else it
-- goes up from there, in order with what that level had, which is empty then
unfoldable pub carried : (ℕ → ℕ) → ℕ → List ℕ → List (List ℕ) → List (List ℕ) × ℕ
carried coins place items [] = ([], place)
carried coins place items ([] ∷ levels) = (halved (coins place) items ∷ levels, place + 1)
carried coins place items ((x ∷ level) ∷ levels) =
    let joined = in_order ((x ∷ level) ++ halved (coins place) items) in
    let above = carried coins (place + 1) joined levels in
    ([] ∷ above.0, above.1)

-- one more item goes to the base; 2k there go up, in order
unfoldable pub held_with : (ℕ → ℕ) → ℕ → Held → ℕ → Held
held_with coins k held x =
    let base = held.base ++ x ∷ [] in
    let up = carried coins held.place (in_order base) held.levels in
    if nat_lt (length base) (2 * k) then record held { base = base }
    else record { base = []; levels = up.0; place = up.1 }

-- the same of items, one after another
abbrev pub held_with_all : (ℕ → ℕ) → ℕ → Held → List ℕ → Held
held_with_all coins k held items = fold (λ kept x. held_with coins k kept x) held items

-- what a list of items leaves
unfoldable pub held_after : (ℕ → ℕ) → ℕ → List ℕ → Held
held_after coins k items = fold (λ held x. held_with coins k held x) nothing_held items

-- the base and the levels: a member weighs 1 in the base, and twice as much in each layer as in the one before
abbrev pub layers_of : Held → List (List ℕ)
layers_of held = held.base ∷ held.levels

-- the weighted number below x in what the sketch with this k and key holds of a list
unfoldable pub ranked : ℕ → ℕ → ℕ → List ℕ → ℕ
ranked x k key items = weighted_rank x (layers_of (held_after (coin_of key) k items))
