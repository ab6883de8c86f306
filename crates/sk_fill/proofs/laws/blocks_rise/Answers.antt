use Rattle.sk_fill.proofs.Blocks as lemmas
use Rattle.sk_fill.proofs.laws.blocks_rise.Goals as goal

pub returns : goal.returns
returns c = lemmas.places_rise
