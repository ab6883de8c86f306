use Rattle.sk_machine.proofs.Coarse.{starts}
use Rattle.sk_machine.proofs.laws.coarse.the_start_meets_it.Goals as goal

pub returns : goal.returns
returns c = starts
