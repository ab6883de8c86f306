use Rattle.sk_report.specs.Boards.{LetsGo}
use Rattle.sk_report.proofs.alarms.let_go.Given as goal

abbrev pub invariant-place : goal.invariant-place
invariant-place g l = LetsGo l.from l.place (g.B.Seen.places l.fn.board) (g.B.Seen.places l.board)
