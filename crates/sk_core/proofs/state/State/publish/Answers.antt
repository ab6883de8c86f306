use Rattle.std.proofs.Common.{rules, arith, ap, ◌++◌, ◌∙◌, length, subst, sym}
use Rattle.sk_model.specs.Entries.{tagged, items_of_entries}
use Rattle.sk_model.specs.Sketch.{packed_of}
use Rattle.sk_core.specs.Inside.{stored_of}
use Rattle.sk_core.proofs.Propagator.{publishes_at, batch_items, batch_fits, stands_after}
use Rattle.sk_core.proofs.state.State.publish.Goals as goal
use Rattle.sk_model.specs.Width.{AreItems}

pub append_batch-requires : goal.append_batch-requires
append_batch-requires c =
    let k = c.self.invariant in
    let fits = batch_fits (stored_of c.self.inside) c.args.i k.stored (search rules) in
    let few = k.stored.few_offers in
    let room = k.room_published in
    let long = c.self.inside.published.ok.0 in
    let short = c.as_slice.ensures.len in
    let same = ap length c.as_slice.ensures.value in
    omega arith

pub merge-requires : goal.merge-requires
merge-requires c = record { items = subst AreItems (sym c.as_slice-2.ensures.value) (batch_items (stored_of c.self.inside) c.args.i c.self.invariant.stored (search rules)) }

pub invariant_of-self : goal.invariant_of-self
invariant_of-self c =
    let k = c.self.invariant in
    let inside = c.self.inside in
    let grown = c.append_batch.ensures.entries ∙ ap (λ b. inside.published.items ++ tagged c.args.i b) c.as_slice.ensures.value in
    let stands = stands_after c.args.i inside.published.items c.append_batch.new.entries.items c.as_slice-2.result.now inside.in_hand.items c.merge.new.self c.as_slice-2.ensures.value grown (c.merge.ensures.stands _ k.sketch) in
    let word = c.packed-self-inside.ensures.value (items_of_entries c.append_batch.new.entries.items) stands ∙ ap (λ n. packed_of n (items_of_entries c.append_batch.new.entries.items)) c.merge.ensures.numbers in
    let o = publishes_at c.args.self.now (stored_of inside) c.args.i c.merge.new.self.k c.packed-self-inside.result _ c.append_batch.new.entries.items c.clear.new.self.items c.self.view_is k.stored grown c.merge.ensures.numbers word c.clear.ensures.items (c.len.ensures ∙ c.append_batch.new.entries.ok.0) (search rules, search rules) in
    record { stored = o.0; sketch = stands; room_offers = k.room_offers; room_published = omega arith; room_in_hand = omega arith; room_tokens = k.room_tokens }

pub returns : goal.returns
returns c =
    let k = c.self.invariant in
    let inside = c.self.inside in
    let grown = c.append_batch.ensures.entries ∙ ap (λ b. inside.published.items ++ tagged c.args.i b) c.as_slice.ensures.value in
    let stands = stands_after c.args.i inside.published.items c.append_batch.new.entries.items c.as_slice-2.result.now inside.in_hand.items c.merge.new.self c.as_slice-2.ensures.value grown (c.merge.ensures.stands _ k.sketch) in
    let word = c.packed-self-inside.ensures.value (items_of_entries c.append_batch.new.entries.items) stands ∙ ap (λ n. packed_of n (items_of_entries c.append_batch.new.entries.items)) c.merge.ensures.numbers in
    let o = publishes_at c.args.self.now (stored_of inside) c.args.i c.merge.new.self.k c.packed-self-inside.result c.len.result c.append_batch.new.entries.items c.clear.new.self.items c.self.view_is k.stored grown c.merge.ensures.numbers word c.clear.ensures.items (c.len.ensures ∙ c.append_batch.new.entries.ok.0) (search rules, search rules) in
    o.1
