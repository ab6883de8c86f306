use Rattle.std.proofs.Common.{refl}
use Rattle.sk_quant.specs.Held.{halved, carried, held_with, held_after}
use Rattle.sk_quant.specs.Order.{rising_with, in_order}
use Rattle.sk_quant.specs.Ranks.{compactions, weighted_rank, error_terms}
use Rattle.sk_quant.proofs.laws.worked.levels_of_items.Goals as goal

pub returns : goal.returns
unfolding rising_with in_order halved carried held_with held_after weighted_rank error_terms compactions
returns c = record { first = refl; second = refl; twice = refl; coins = refl }
