use Rattle.sk_model.proofs.Missing as lemmas
use Rattle.sk_model.proofs.laws.missing.missing_adds_up.Goals as goal

pub returns : goal.returns
returns c = lemmas.missing_adds_up
