use Rattle.sk_report.proofs.Arming.{armed_all}
use Rattle.sk_report.proofs.alarms.arm.Goals as goal

pub returns : goal.returns
returns g c = armed_all _ _ _ _ _ c.arm_first.ensures c.let_go.ensures
