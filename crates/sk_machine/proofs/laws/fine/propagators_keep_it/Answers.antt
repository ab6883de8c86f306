use Rattle.sk_machine.proofs.Propagator.{looks_for, takes, publishes_one, puts, returns_one}
use Rattle.sk_machine.proofs.laws.fine.propagators_keep_it.Goals as goal

pub returns-clause-find : goal.returns-clause-find
returns-clause-find c = looks_for

pub returns-clause-take : goal.returns-clause-take
returns-clause-take c = takes

pub returns-clause-publish : goal.returns-clause-publish
returns-clause-publish c = publishes_one

pub returns-clause-put : goal.returns-clause-put
returns-clause-put c = puts

pub returns-clause-give_back : goal.returns-clause-give_back
returns-clause-give_back c = returns_one
