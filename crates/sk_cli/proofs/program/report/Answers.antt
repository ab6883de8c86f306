use Rattle.sk_cli.proofs.Reporting.{reported}
use Rattle.sk_cli.proofs.program.report.Goals as goal

pub returns-clause-told : goal.returns-clause-told
returns-clause-told g c = reported c.tell.result _ _ _ _ _ c.tell.ensures.ok c.tell.ensures.part c.tell.ensures.cause
