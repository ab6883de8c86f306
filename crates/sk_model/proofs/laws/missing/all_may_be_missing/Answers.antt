use Rattle.sk_model.proofs.Missing as lemmas
use Rattle.sk_model.proofs.laws.missing.all_may_be_missing.Goals as goal

pub returns : goal.returns
returns c = lemmas.all_may_be_missing
