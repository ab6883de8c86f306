use Rattle.sk_cms.proofs.Estimates as lemmas
use Rattle.sk_cms.proofs.laws.never_too_low.Goals as goal

pub returns : goal.returns
returns c = lemmas.times_least
