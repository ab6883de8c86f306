use Rattle.sk_model.proofs.Entries as lemmas
use Rattle.sk_model.proofs.laws.entries.entries_by_tagged.Goals as goal

pub returns : goal.returns
returns c = lemmas.entries_by_tagged
