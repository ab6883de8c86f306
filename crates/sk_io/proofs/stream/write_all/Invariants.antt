use Rattle.std.proofs.Common.{◌≡◌, ◌≤◌, ◌-◌, length, take}
use Rattle.std.specs.Io.KnownBytes.{Appends}
use Rattle.sk_io.proofs.stream.write_all.Given as goal

abbrev pub invariant-write : goal.invariant-write
invariant-write g l =
    (l.at ≤ length l.bytes) ×
    Appends (g.O.Sink.written l.initial.out) (g.O.Sink.written l.out) (take l.at l.bytes) ×
    (g.O.Sink.faults l.out ≡ g.O.Sink.faults l.initial.out)

abbrev pub decreases-write : goal.decreases-write
decreases-write g l = length l.bytes - l.at
