use Rattle.sk_cms.proofs.Parts as lemmas
use Rattle.sk_cms.proofs.laws.a_tally_is_of_all_items.Goals as goal

pub returns : goal.returns
returns c = lemmas.tally_of_parts
