use Rattle.std.proofs.Common.{rules, arith}
use Rattle.sk_core.specs.Inside.{stored_of}
use Rattle.sk_core.proofs.Propagator.{at_found, takes_at}
use Rattle.sk_core.proofs.state.State.take.Goals as goal

pub index_mut-updater-requires : goal.index_mut-updater-requires
index_mut-updater-requires c = let inside = at_found (stored_of c.self.inside) c.args.i c.self.invariant.stored (search rules) in let long = c.self.inside.updaters.ok.0 in omega arith

pub invariant_of-self : goal.invariant_of-self
invariant_of-self c =
    let o = takes_at c.args.self.now (stored_of c.self.inside) c.args.i c.index_mut-updater.result.now c.take.new.self c.self.view_is c.self.invariant.stored c.index_mut-updater.ensures.value c.slot_len-count.result c.take.new.batch.items c.slot_len-count.ensures c.take.ensures.batch c.take.ensures.updater (search rules) in
    let k = c.self.invariant in
    record { stored = o.0; sketch = k.sketch; room_offers = k.room_offers; room_published = k.room_published; room_in_hand = c.take.ensures.room; room_tokens = k.room_tokens }

pub returns : goal.returns
returns c = let o = takes_at c.args.self.now (stored_of c.self.inside) c.args.i c.index_mut-updater.result.now c.take.new.self c.self.view_is c.self.invariant.stored c.index_mut-updater.ensures.value c.slot_len-count.result c.take.new.batch.items c.slot_len-count.ensures c.take.ensures.batch c.take.ensures.updater (search rules) in o.1
