use Rattle.std.proofs.Common.{◌∷◌, [], ◌++◌, length, sym, ap, ◌∙◌, arith, append-nil, append_assoc}
use Rattle.rtrb.specs.Ring.{received, known_items}
use Rattle.sk_feed.proofs.DeliveryLaws.{fed_none, fed_looked, fed_next, next_room}
use Rattle.sk_feed.proofs.lane.feed_rest.Goals as goal

pub rest-init : goal.rest-init
rest-init g c =
    let k = g.T.TakesStretches in let looked = c.slots_beside-left.ensures.looked in let a = c.args.inlet.now in let t = c.args.taker.now in let took = k.took c.args.kind c.args.i c.args.n in record {
      fed = fed_looked k.keeps_at_most took a a c.slots_beside-left.new.self t t (fed_none k.keeps_at_most took a t c.requires.behind) looked.2 looked.1;
      all = c.slots_beside-left.ensures.fifo ∙ c.slots_beside-left.ensures.producer.1;
      left = omega (arith, c.slots_beside-left.ensures.value);
    }

pub take_delivery-requires-clause-room : goal.take_delivery-requires-clause-room
take_delivery-requires-clause-room g c =
    let came = c.pop_known-delivery.ensures.received in
    next_room g.T.TakesStretches.keeps_at_most c.rest.inlet c.pop_known-delivery.new.self c.rest.taker c.pop_known-delivery.result c.rest.invariant.fed.up_to ([], append-nil (known_items c.rest.inlet) ∙ came.1) c.pop_known-delivery.ensures.allowed

pub rest-preserved : goal.rest-preserved
rest-preserved g c =
    let k = g.T.TakesStretches in let inv = c.rest.invariant in let s = c.pop_known-delivery.result in let came = c.pop_known-delivery.ensures.received in let next = c.pop_known-delivery.new.self in record {
      fed = fed_next k.keeps_at_most (k.took c.args.kind c.args.i c.args.n) c.args.inlet.now c.rest.inlet next c.args.taker.now c.rest.taker c.take_delivery.new.taker s inv.fed ([], append-nil (known_items c.rest.inlet) ∙ came.1) came.0
          c.in_ok-take_delivery.ensures.took c.in_ok-take_delivery.ensures.kept;
      all = ap (λ l. l ++ known_items next) came.0 ∙ append_assoc (received c.rest.inlet) (s ∷ []) (known_items next) ∙ ap (λ l. received c.rest.inlet ++ l) (sym came.1) ∙ inv.all;
      left = omega (arith, ap length came.1, inv.left);
    }
