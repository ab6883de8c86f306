use Rattle.sk_make.proofs.Texts.{number_is_small}
use Rattle.sk_make.proofs.laws.numbers_are_small.Goals as goal

pub returns : goal.returns
returns c = number_is_small
