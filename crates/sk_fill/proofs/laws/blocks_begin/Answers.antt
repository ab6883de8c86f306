use Rattle.sk_fill.proofs.Blocks as lemmas
use Rattle.sk_fill.proofs.laws.blocks_begin.Goals as goal

pub returns : goal.returns
returns c = lemmas.first_place
