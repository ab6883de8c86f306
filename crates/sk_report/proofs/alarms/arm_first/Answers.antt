use Rattle.sk_report.proofs.Arming.{none_armed, still_live, one_armed}
use Rattle.sk_report.proofs.alarms.arm_first.Goals as goal

pub arm-init : goal.arm-init
arm-init g c = none_armed _ _ _

pub arm_at-requires : goal.arm_at-requires
arm_at-requires g c = still_live _ _ _ _ _ (c.requires.live c.arm.place c.arm-test.true) c.arm.invariant

pub arm-preserved : goal.arm-preserved
arm-preserved g c = one_armed _ _ _ _ _ _ (c.requires.live c.arm.place c.arm-test.true) c.arm.invariant c.arm_at.ensures
