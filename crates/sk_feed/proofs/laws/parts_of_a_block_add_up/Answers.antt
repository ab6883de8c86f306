use Rattle.sk_feed.proofs.Feeding as lemmas
use Rattle.sk_feed.proofs.laws.parts_of_a_block_add_up.Goals as goal

pub returns : goal.returns
returns c = lemmas.parts_add_up
