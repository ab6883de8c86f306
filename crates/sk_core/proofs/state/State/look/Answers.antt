use Rattle.std.proofs.Common.{rules}
use Rattle.sk_core.specs.Inside.{stored_of}
use Rattle.sk_core.proofs.Updaters.{looks_at}
use Rattle.sk_core.proofs.state.State.look.Goals as goal

pub invariant_of-self-2 : goal.invariant_of-self-2
invariant_of-self-2 c =
    let o = looks_at c.args.self.now (stored_of c.self.inside) c.args.i c.index_mut-updater.result.now c.renew.new.self c.self.view_is c.self.invariant.stored c.index_mut-updater.ensures.value c.word-word.result c.word-word.ensures c.if-word-eq0.false c.renew.ensures (c.may_look.ensures.0 (search rules)) in
    let k = c.self.invariant in
    record { stored = o.0; sketch = k.sketch; room_offers = k.room_offers; room_published = k.room_published; room_in_hand = k.room_in_hand; room_tokens = k.room_tokens }

pub returns : goal.returns
returns c = let o = looks_at c.args.self.now (stored_of c.self.inside) c.args.i c.index_mut-updater.result.now c.renew.new.self c.self.view_is c.self.invariant.stored c.index_mut-updater.ensures.value c.word-word.result c.word-word.ensures c.if-word-eq0.false c.renew.ensures (c.may_look.ensures.0 (search rules)) in o.1
