use Rattle.sk_serve.proofs.Conclusions.{one_estimate}
use Rattle.sk_serve.proofs.laws.the_estimate_is_of_all_that_was_offered.Goals as goal

pub returns : goal.returns
returns c = one_estimate
