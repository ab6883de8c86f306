use Rattle.sk_machine.proofs.Coarse.{entries_are_few}
use Rattle.sk_machine.proofs.laws.coarse.entries_are_few.Goals as goal

pub returns : goal.returns
returns c = entries_are_few
