use Rattle.sk_quant.proofs.Bounds as lemmas
use Rattle.sk_quant.proofs.laws.held_is_filled.Goals as goal

pub returns : goal.returns
returns c = λ coins k items some few. (lemmas.after_all coins k items some few).filled
