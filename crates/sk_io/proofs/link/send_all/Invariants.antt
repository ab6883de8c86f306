use Rattle.std.proofs.Common.{◌≡◌, ◌≤◌, ◌-◌, [], length, take}
use Rattle.sk_io.specs.Traffic.{Exchanges}
use Rattle.sk_io.proofs.link.send_all.Given as goal

abbrev pub invariant-send : goal.invariant-send
invariant-send g l = record {
  within : l.at ≤ length l.bytes;
  sent : Exchanges (g.L.Link.traffic l.initial.link) (g.L.Link.traffic l.link) [] (take l.at l.bytes);
  steady : g.L.Link.faults l.link ≡ g.L.Link.faults l.initial.link;
}

abbrev pub decreases-send : goal.decreases-send
decreases-send g l = length l.bytes - l.at
