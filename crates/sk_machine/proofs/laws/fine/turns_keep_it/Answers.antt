use Rattle.sk_machine.proofs.Propagator.{turns_to, yields_it}
use Rattle.sk_machine.proofs.laws.fine.turns_keep_it.Goals as goal

pub returns-clause-turn : goal.returns-clause-turn
returns-clause-turn c = turns_to

pub returns-clause-yields : goal.returns-clause-yields
returns-clause-yields c = yields_it
