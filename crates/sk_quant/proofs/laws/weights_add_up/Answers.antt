use Rattle.sk_quant.proofs.Bounds as lemmas
use Rattle.sk_quant.proofs.laws.weights_add_up.Goals as goal

pub returns : goal.returns
returns c = lemmas.weights_add_up
