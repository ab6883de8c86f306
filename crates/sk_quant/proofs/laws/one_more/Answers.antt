use Rattle.sk_quant.proofs.Bounds as lemmas
use Rattle.sk_quant.proofs.laws.one_more.Goals as goal

pub returns : goal.returns
returns c = lemmas.held_after_push
