use Rattle.std.specs.Io.KnownBytes.{Keeps}
use Rattle.sk_io.proofs.steps.flush_some.Given as goal

abbrev pub invariant-again : goal.invariant-again
invariant-again g l = Keeps (g.W.Write.contents l.initial.stream) (g.W.Write.contents l.stream)
