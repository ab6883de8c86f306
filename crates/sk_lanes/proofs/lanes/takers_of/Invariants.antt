use Rattle.std.proofs.Common.{◌≡◌, ◌++◌, map}
use Rattle.sk_lanes.proofs.lanes.takers_of.Given as goal

abbrev pub invariant-lane : goal.invariant-lane
invariant-lane g l = record {
  moved : l.takers.items ≡ map (λ x. x.taker) l.yielded;
  all : l.yielded ++ l.lane-iterator.rest.items ≡ l.fn.lanes.items;
}
