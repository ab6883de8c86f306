use Rattle.std.proofs.Common.{◌≡◌, ◌<◌, ◌≤◌, ◌-◌, length, take}
use Rattle.std.specs.Io.KnownBytes.{Appends, IsAtEnd}
use Rattle.sk_io.specs.Standard.{writer_of}
use Rattle.sk_base_calls.proofs.tests.streams.handed_on.Given as goal

abbrev pub invariant-write : goal.invariant-write
invariant-write g l =
    (l.at ≤ length l.bytes) ×
    Appends (g.W.Outlet.contents (writer_of l.initial.sink)) (g.W.Outlet.contents (writer_of l.sink)) (take l.at l.bytes) ×
    (0 < l.at → IsAtEnd (g.W.Outlet.held (writer_of l.sink))) ×
    (l.sink.faults ≡ l.initial.sink.faults)

abbrev pub decreases-write : goal.decreases-write
decreases-write g l = length l.bytes - l.at
