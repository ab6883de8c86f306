use Rattle.sk_cms.proofs.Estimates as lemmas
use Rattle.sk_cms.proofs.laws.the_least_is_of_a_row.Goals as goal

pub returns : goal.returns
returns c = record { within = lemmas.least_within; most = lemmas.least_most; one = lemmas.least_of_a_row }
