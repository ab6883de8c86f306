use Rattle.std.proofs.Common.{◌≡◌, length}
use Rattle.std.specs.Io.KnownBytes.{Keeps}
use Rattle.sk_io.proofs.steps.read_some.Given as goal

abbrev pub invariant-again : goal.invariant-again
invariant-again g l = (length l.buf ≡ length l.initial.buf) × Keeps (g.S.Read.remaining l.initial.stream) (g.S.Read.remaining l.stream)
