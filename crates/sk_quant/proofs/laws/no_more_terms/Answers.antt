use Rattle.sk_quant.proofs.Errors as lemmas
use Rattle.sk_quant.proofs.laws.no_more_terms.Goals as goal

pub returns : goal.returns
returns c = lemmas.no_more_terms
