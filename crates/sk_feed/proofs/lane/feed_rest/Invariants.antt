use Rattle.std.proofs.Common.{◌≡◌, ◌+◌, ◌++◌, length}
use Rattle.rtrb.specs.Ring.{sent, received, known_items}
use Rattle.sk_feed.specs.Deliveries.{HasFed}
use Rattle.sk_feed.proofs.lane.feed_rest.Given as goal

abbrev pub invariant-rest : goal.invariant-rest
invariant-rest g l = let k = g.T.TakesStretches in record {
  fed : HasFed (k.took l.kind l.i l.n) k.keeps_at_most l.fn.inlet l.fn.taker l.inlet l.taker;
  all : received l.inlet ++ known_items l.inlet ≡ sent l.fn.outlet;
  left : length (known_items l.inlet) + l.counter ≡ l.left;
}
