use Rattle.sk_model.proofs.Numbers as lemmas
use Rattle.sk_model.proofs.laws.numbers.numbers_are_below.Goals as goal

pub returns : goal.returns
returns c = lemmas.number_below
