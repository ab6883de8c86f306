use Rattle.std.specs.Io.KnownBytes.{Keeps}
use Rattle.sk_net.proofs.sends.send_some.Given as goal

abbrev pub invariant-again : goal.invariant-again
invariant-again g l = Keeps (g.W.Write.contents l.initial.out) (g.W.Write.contents l.out)
