use Rattle.sk_cli.proofs.Tallying as tallying
use Rattle.sk_cli.proofs.laws.tally_decides.Goals as goal

pub returns-clause-decided : goal.returns-clause-decided
returns-clause-decided c = tallying.tally_decides

pub returns-clause-one_text : goal.returns-clause-one_text
returns-clause-one_text c = tallying.one_tally
