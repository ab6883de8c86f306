use Rattle.sk_cli.proofs.Deciding as deciding
use Rattle.sk_cli.proofs.laws.make_decides.Goals as goal

pub returns-clause-decided : goal.returns-clause-decided
returns-clause-decided c = deciding.make_decides

pub returns-clause-one_text : goal.returns-clause-one_text
returns-clause-one_text c = deciding.one_report
