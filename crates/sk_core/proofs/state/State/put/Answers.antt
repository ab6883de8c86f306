use Rattle.std.proofs.Common.{rules, arith}
use Rattle.sk_core.specs.Inside.{stored_of}
use Rattle.sk_core.proofs.Propagator.{at_published, puts_at}
use Rattle.sk_core.proofs.state.State.put.Goals as goal

pub index_mut-requires : goal.index_mut-requires
index_mut-requires c = let inside = at_published (stored_of c.self.inside) c.args.i c.self.invariant.stored (search rules) in let long = c.self.inside.updaters.ok.0 in omega arith

pub invariant_of-self : goal.invariant_of-self
invariant_of-self c =
    let o = puts_at c.args.self.now (stored_of c.self.inside) c.args.i c.index_mut.result.now c.put.new.self c.self.view_is c.self.invariant.stored c.index_mut.ensures.value c.put.ensures (search rules) in
    let k = c.self.invariant in
    record { stored = o.0; sketch = k.sketch; room_offers = k.room_offers; room_published = k.room_published; room_in_hand = k.room_in_hand; room_tokens = k.room_tokens }

pub returns : goal.returns
returns c = let o = puts_at c.args.self.now (stored_of c.self.inside) c.args.i c.index_mut.result.now c.put.new.self c.self.view_is c.self.invariant.stored c.index_mut.ensures.value c.put.ensures (search rules) in o.1
