use Rattle.std.proofs.Common.{refl}
use Rattle.sk_quant.specs.Held.{halved, carried, held_with, held_after}
use Rattle.sk_quant.specs.Order.{rising_with, in_order}
use Rattle.sk_quant.specs.Ranks.{weighted_rank, error_terms}
use Rattle.sk_quant.proofs.laws.worked.three_items.Goals as goal

pub returns : goal.returns
unfolding rising_with in_order halved carried held_with held_after weighted_rank error_terms
returns c = record { below = λ coins. refl; error = refl }
