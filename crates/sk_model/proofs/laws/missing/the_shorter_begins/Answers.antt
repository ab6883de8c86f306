use Rattle.sk_model.proofs.Missing as lemmas
use Rattle.sk_model.proofs.laws.missing.the_shorter_begins.Goals as goal

pub returns : goal.returns
returns c = lemmas.begins_shorter
