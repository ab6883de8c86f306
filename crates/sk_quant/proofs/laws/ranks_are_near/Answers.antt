use Rattle.sk_quant.proofs.Bounds as lemmas
use Rattle.sk_quant.proofs.laws.ranks_are_near.Goals as goal

pub returns : goal.returns
returns c = lemmas.ranks_are_near
