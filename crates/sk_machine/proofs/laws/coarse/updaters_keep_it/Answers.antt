use Rattle.sk_machine.proofs.Coarse.{looks, hands, rests, admits}
use Rattle.sk_machine.proofs.laws.coarse.updaters_keep_it.Goals as goal

pub returns-clause-look : goal.returns-clause-look
returns-clause-look c = looks

pub returns-clause-hand : goal.returns-clause-hand
returns-clause-hand c = hands

pub returns-clause-rest : goal.returns-clause-rest
returns-clause-rest c = rests

pub returns-clause-admit : goal.returns-clause-admit
returns-clause-admit c = admits
