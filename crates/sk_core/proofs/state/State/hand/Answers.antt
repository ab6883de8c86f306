use Rattle.std.proofs.Common.{rules}
use Rattle.sk_core.specs.Inside.{stored_of}
use Rattle.sk_core.proofs.Updaters.{hands_at}
use Rattle.sk_core.proofs.state.State.hand.Goals as goal

pub invariant_of-self : goal.invariant_of-self
invariant_of-self c =
    let o = hands_at c.args.self.now (stored_of c.self.inside) c.args.i c.index_mut-updater.result.now c.hand.new.self c.self.view_is c.self.invariant.stored c.index_mut-updater.ensures.value c.slot_len-count.result c.slot_len-count.ensures c.hand.ensures (c.may_hand.ensures.0 (search rules)) in
    let k = c.self.invariant in
    record { stored = o.0; sketch = k.sketch; room_offers = k.room_offers; room_published = k.room_published; room_in_hand = k.room_in_hand; room_tokens = k.room_tokens }

pub returns : goal.returns
returns c = let o = hands_at c.args.self.now (stored_of c.self.inside) c.args.i c.index_mut-updater.result.now c.hand.new.self c.self.view_is c.self.invariant.stored c.index_mut-updater.ensures.value c.slot_len-count.result c.slot_len-count.ensures c.hand.ensures (c.may_hand.ensures.0 (search rules)) in o.1
