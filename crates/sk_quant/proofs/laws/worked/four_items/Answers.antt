use Rattle.std.proofs.Common.{◌≡◌, ℕ, ◌+◌, ◌*◌, true, false, cond, eqb, [], ◌∷◌, refl}
use Rattle.sk_quant.specs.Held.{halved, carried, held_with, held_after}
use Rattle.sk_quant.specs.Order.{rising_with, in_order}
use Rattle.sk_quant.specs.Ranks.{rank_of, weighted_rank, error_terms}
use Rattle.sk_quant.proofs.laws.worked.four_items.Goals as goal

either : (coin : ℕ) → 0 + 2 * (rank_of 3 (cond (eqb coin 0) 1 2 ∷ cond (eqb coin 0) 3 4 ∷ []) + 2 * 0) ≡ 2
either coin = elim (eqb coin 0) as (λ b. 0 + 2 * (rank_of 3 (cond b 1 2 ∷ cond b 3 4 ∷ []) + 2 * 0) ≡ 2) [ true ↦ refl | false ↦ refl ]

pub returns : goal.returns
unfolding rising_with in_order halved carried held_with held_after weighted_rank error_terms
returns c = record { below = λ coins. either (coins 0); error = refl }
