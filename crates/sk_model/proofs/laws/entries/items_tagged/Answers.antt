use Rattle.sk_model.proofs.Entries as lemmas
use Rattle.sk_model.proofs.laws.entries.items_tagged.Goals as goal

pub returns : goal.returns
returns c = lemmas.items_tagged
