use Rattle.std.proofs.Common.{refl}
use Rattle.sk_feed.proofs.DeliveryLaws.{fed_none, fed_next, fed_waited, next_room, same_ring}
use Rattle.sk_feed.proofs.lane.feed_deliveries.Goals as goal

pub delivery-init : goal.delivery-init
delivery-init g c = let k = g.T.TakesStretches in record {
  ring = ((refl, refl, refl, refl), refl);
  fed = fed_none k.keeps_at_most (k.took c.args.kind c.args.i c.args.n) c.args.inlet.now c.args.taker.now c.requires.behind;
}

pub take_delivery-requires-clause-room : goal.take_delivery-requires-clause-room
take_delivery-requires-clause-room g c =
    let came = c.in-Ok.ensures.ok in
    next_room g.T.TakesStretches.keeps_at_most c.delivery.inlet c.pop.new.self c.delivery.taker c.in-Ok.delivery c.delivery.invariant.fed.up_to came.1 came.2

pub returns-then-not-branch-clause-taken : goal.returns-then-not-branch-clause-taken
returns-then-not-branch-clause-taken g c =
    let k = g.T.TakesStretches in let came = c.in-Ok.ensures.ok in
    fed_next k.keeps_at_most (k.took c.args.kind c.args.i c.args.n) c.args.inlet.now c.delivery.inlet c.pop.new.self c.args.taker.now c.delivery.taker c.take_delivery.new.taker c.in-Ok.delivery c.delivery.invariant.fed came.1 came.0
    c.in_ok-take_delivery-in-Ok.ensures.took c.in_ok-take_delivery-in-Ok.ensures.kept

pub returns-then-ended-clause-taken : goal.returns-then-ended-clause-taken
returns-then-ended-clause-taken g c =
    let k = g.T.TakesStretches in let none = c.in-Err.ensures.empty in
    fed_waited k.keeps_at_most (k.took c.args.kind c.args.i c.args.n) c.args.inlet.now c.delivery.inlet c.pop.new.self c.args.taker.now c.delivery.taker c.delivery.invariant.fed none.0 none.1 c.in-Err.ensures.succeeds

pub delivery-preserved-in-Ok : goal.delivery-preserved-in-Ok
delivery-preserved-in-Ok g c =
    let k = g.T.TakesStretches in let inv = c.delivery.invariant in let came = c.in-Ok.ensures.ok in record {
      ring = same_ring c.args.inlet.now c.delivery.inlet c.pop.new.self inv.ring c.in-Ok.ensures.ring;
      fed = fed_next k.keeps_at_most (k.took c.args.kind c.args.i c.args.n) c.args.inlet.now c.delivery.inlet c.pop.new.self c.args.taker.now c.delivery.taker c.take_delivery.new.taker c.in-Ok.delivery inv.fed came.1 came.0
          c.in_ok-take_delivery-in-Ok.ensures.took c.in_ok-take_delivery-in-Ok.ensures.kept;
    }

pub delivery-preserved : goal.delivery-preserved
delivery-preserved g c =
    let k = g.T.TakesStretches in let inv = c.delivery.invariant in let none = c.in-Err.ensures.empty in record {
      ring = same_ring c.args.inlet.now c.delivery.inlet c.pop.new.self inv.ring c.in-Err.ensures.ring;
      fed = fed_waited k.keeps_at_most (k.took c.args.kind c.args.i c.args.n) c.args.inlet.now c.delivery.inlet c.pop.new.self c.args.taker.now c.delivery.taker inv.fed none.0 none.1 c.in-Err.ensures.succeeds;
    }
