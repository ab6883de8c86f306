use Rattle.sk_fill.proofs.Blocks as lemmas
use Rattle.sk_fill.proofs.laws.blocks_end.Goals as goal

pub returns : goal.returns
returns c = lemmas.last_place
