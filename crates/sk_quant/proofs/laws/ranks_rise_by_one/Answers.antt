use Rattle.sk_quant.proofs.Orders as lemmas
use Rattle.sk_quant.proofs.laws.ranks_rise_by_one.Goals as goal

pub returns : goal.returns
returns c = lemmas.ranks_rise_by_one
