use Rattle.sk_machine.proofs.Coarse.{finds, publishes, gives_back, turns, yields}
use Rattle.sk_machine.proofs.laws.coarse.propagators_keep_it.Goals as goal

pub returns-clause-find : goal.returns-clause-find
returns-clause-find c = finds

pub returns-clause-publish : goal.returns-clause-publish
returns-clause-publish c = publishes

pub returns-clause-give_back : goal.returns-clause-give_back
returns-clause-give_back c = gives_back

pub returns-clause-turn : goal.returns-clause-turn
returns-clause-turn c = turns

pub returns-clause-yields : goal.returns-clause-yields
returns-clause-yields c = yields
