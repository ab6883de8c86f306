use Rattle.std.proofs.Common.{rules, arith, sym, ◌∙◌}
use borrow.Author.Tests.{ltb-true, ltb-false}
use Rattle.sk_core.specs.Inside.{stored_of}
use Rattle.sk_core.proofs.Updaters.{keeps_at, filters_at}
use Rattle.sk_core.proofs.state.State.offer.Goals as goal

pub returns-then-not-keeps : goal.returns-then-not-keeps
returns-then-not-keeps c = let u = c.index_mut-updater.result.now in filters_at c.args.self.now (stored_of c.self.inside) c.args.i c.index_mut-updater.result.now c.index_mut-updater.result.now c.self.view_is c.self.invariant.stored c.index_mut-updater.ensures.value c.args.item (ltb-false c.args.item u.hint (sym c.keeps.ensures ∙ search rules)) (c.may_offer.ensures.0 (search rules))

pub invariant_of-self-2 : goal.invariant_of-self-2
invariant_of-self-2 c =
    let o = keeps_at c.args.self.now (stored_of c.self.inside) c.args.i c.index_mut-updater.result.now c.push.new.self c.self.view_is c.self.invariant.stored c.index_mut-updater.ensures.value c.args.item c.push_reserved.new.self.items c.push_reserved.ensures.items (ltb-true c.args.item c.index_mut-updater.result.now.hint (sym c.keeps.ensures ∙ search rules)) c.push.ensures (c.may_offer.ensures.0 (search rules)) in
    let k = c.self.invariant in
    record { stored = o.0; sketch = k.sketch; room_offers = omega arith; room_published = k.room_published; room_in_hand = k.room_in_hand; room_tokens = k.room_tokens }

pub returns : goal.returns
returns c = let o = keeps_at c.args.self.now (stored_of c.self.inside) c.args.i c.index_mut-updater.result.now c.push.new.self c.self.view_is c.self.invariant.stored c.index_mut-updater.ensures.value c.args.item c.push_reserved.new.self.items c.push_reserved.ensures.items (ltb-true c.args.item c.index_mut-updater.result.now.hint (sym c.keeps.ensures ∙ search rules)) c.push.ensures (c.may_offer.ensures.0 (search rules)) in o.1
