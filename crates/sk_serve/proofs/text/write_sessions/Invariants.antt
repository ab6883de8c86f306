use Rattle.std.proofs.Common.{◌≡◌}
use Rattle.std.specs.Io.KnownBytes.{Appends}
use Rattle.sk_serve.proofs.Lines.{lines_before}
use Rattle.sk_serve.proofs.text.write_sessions.Given as goal

abbrev pub invariant-session : goal.invariant-session
invariant-session g l = Appends (g.O.Sink.written l.initial.out) (g.O.Sink.written l.out) (lines_before l.ends l.i) × (g.O.Sink.faults l.out ≡ g.O.Sink.faults l.initial.out)
