use Rattle.std.proofs.Common.{◌≡◌}
use Rattle.std.specs.Io.KnownBytes.{Appends}
use Rattle.sk_report.proofs.MaskLines.{lines_before}
use Rattle.sk_report.proofs.text.write_alarms.Given as goal

abbrev pub invariant-place : goal.invariant-place
invariant-place g l = Appends (g.O.Sink.written l.initial.out) (g.O.Sink.written l.out) (lines_before l.gone l.place) × (g.O.Sink.faults l.out ≡ g.O.Sink.faults l.initial.out)
