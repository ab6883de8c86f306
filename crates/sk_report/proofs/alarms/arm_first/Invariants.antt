use Rattle.sk_report.specs.Boards.{ArmsFirst}
use Rattle.sk_report.proofs.alarms.arm_first.Given as goal

abbrev pub invariant-arm : goal.invariant-arm
invariant-arm g l = ArmsFirst l.k l.marks l.place (g.B.Seen.places l.fn.board) (g.B.Seen.places l.board)
