use Rattle.sk_cli.proofs.Numbers.{ranks_of_numbers}
use Rattle.sk_cli.proofs.laws.ranks_are_of_numbers.Goals as goal

pub returns : goal.returns
returns c = ranks_of_numbers
