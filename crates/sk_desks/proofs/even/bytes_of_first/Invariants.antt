use Rattle.std.proofs.Common.{◌-◌}
use Rattle.sk_desks.specs.Gathers.{AreUpTo}
use Rattle.sk_desks.proofs.even.bytes_of_first.Given as goal

abbrev pub invariant-line : goal.invariant-line
invariant-line l = AreUpTo l.finder.names l.text l.most l.shape.len l.bytes

abbrev pub decreases-line : goal.decreases-line
decreases-line l = l.last - l.bytes
