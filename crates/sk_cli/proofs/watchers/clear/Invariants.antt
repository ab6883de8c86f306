use Rattle.std.proofs.Common.{◌≡◌, ◌++◌, take, drop}
use Rattle.sk_cli.specs.Beside.{cleared}
use Rattle.sk_cli.proofs.watchers.clear.Given as goal

abbrev pub invariant-clear : goal.invariant-clear
invariant-clear g l = g.B.Seen.places l.board ≡ cleared (take l.place (g.B.Seen.places l.initial.board)) ++ drop l.place (g.B.Seen.places l.initial.board)
