use Rattle.rtrb.specs.Ring.{SameConsumer}
use Rattle.sk_feed.specs.Deliveries.{HasFed}
use Rattle.sk_feed.proofs.lane.feed_deliveries.Given as goal

abbrev pub invariant-delivery : goal.invariant-delivery
invariant-delivery g l = let k = g.T.TakesStretches in record {
  ring : SameConsumer l.initial.inlet l.inlet;
  fed : HasFed (k.took l.kind l.i l.n) k.keeps_at_most l.initial.inlet l.initial.taker l.inlet l.taker;
}
