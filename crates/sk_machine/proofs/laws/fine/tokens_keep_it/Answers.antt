use Rattle.sk_machine.proofs.Tokens.{asks, splits, notes, joins}
use Rattle.sk_machine.proofs.laws.fine.tokens_keep_it.Goals as goal

pub returns-clause-ask : goal.returns-clause-ask
returns-clause-ask c = asks

pub returns-clause-split : goal.returns-clause-split
returns-clause-split c = splits

pub returns-clause-note : goal.returns-clause-note
returns-clause-note c = notes

pub returns-clause-join : goal.returns-clause-join
returns-clause-join c = joins
