use Rattle.std.proofs.Common.{◌-◌, length}
use Rattle.sk_desks.proofs.EvenLaws.{AreSoFar}
use Rattle.sk_desks.proofs.even.are_each_of_tenants.Given as goal

abbrev pub invariant-line : goal.invariant-line
invariant-line l = AreSoFar l.names l.run l.count l.len l.label l.at

abbrev pub decreases-line : goal.decreases-line
decreases-line l = length l.run - l.at
