use Rattle.std.proofs.Common.{refl}
use Rattle.sk_quant.specs.Ranks.{error_terms}
use Rattle.sk_quant.proofs.laws.worked.errors_of_a_thousand.Goals as goal

pub returns : goal.returns
unfolding error_terms
returns c = record { least = refl; greater = refl }
