use Rattle.sk_machine.proofs.Updaters.{offers, looks, swaps, hands, admits}
use Rattle.sk_machine.proofs.laws.fine.updaters_keep_it.Goals as goal

pub returns-clause-offer : goal.returns-clause-offer
returns-clause-offer c = offers

pub returns-clause-look : goal.returns-clause-look
returns-clause-look c = looks

pub returns-clause-swap : goal.returns-clause-swap
returns-clause-swap c = swaps

pub returns-clause-hand : goal.returns-clause-hand
returns-clause-hand c = hands

pub returns-clause-admit : goal.returns-clause-admit
returns-clause-admit c = λ hint packed f i b. admits hint packed f i b
