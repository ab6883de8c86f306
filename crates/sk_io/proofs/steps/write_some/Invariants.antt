use Rattle.std.specs.Io.KnownBytes.{Keeps}
use Rattle.sk_io.proofs.steps.write_some.Given as goal

abbrev pub invariant-again : goal.invariant-again
invariant-again g l = Keeps (g.S.Write.contents l.initial.stream) (g.S.Write.contents l.stream)
