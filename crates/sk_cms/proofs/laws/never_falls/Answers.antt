use Rattle.sk_cms.proofs.Estimates as lemmas
use Rattle.sk_cms.proofs.laws.never_falls.Goals as goal

pub returns : goal.returns
returns c = lemmas.least_grows
