use Rattle.sk_quant.proofs.Halves as lemmas
use Rattle.sk_quant.proofs.laws.one_compaction.Goals as goal

pub returns : goal.returns
returns c = lemmas.halves_are_near
