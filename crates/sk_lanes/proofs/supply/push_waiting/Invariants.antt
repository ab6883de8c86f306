use Rattle.std.proofs.Common.{◌≡◌}
use Rattle.rtrb.specs.Ring.{sent, SameProducer}
use Rattle.sk_lanes.proofs.supply.push_waiting.Given as goal

abbrev pub invariant-again : goal.invariant-again
invariant-again g l = SameProducer l.initial.outlet l.outlet × (sent l.outlet ≡ sent l.initial.outlet) × (l.delivery ≡ l.initial.delivery)
