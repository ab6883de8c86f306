use Rattle.std.proofs.Common.{rules, arith, refl, ap, ◌∙◌, sym, subst}
use Rattle.sk_core.specs.Inside.{stored_of}
use Rattle.sk_core.proofs.Tokens.{notes_at}
use Rattle.sk_core.specs.Stored.{StoredUpdater, Stored, blank_updater, machine_of}
use Rattle.sk_machine.specs.Fine.{MayNote}
use Rattle.sk_core.proofs.Machine.{read_at}
use Rattle.sk_core.proofs.state.State.note.Goals as goal

pub invariant_of-self : goal.invariant_of-self
invariant_of-self c =
    let k = c.self.invariant in
    let may = c.may_note.ensures.0 (search rules) in
    let inside = (subst (λ (o : Stored). MayNote c.args.i (machine_of o)) (sym c.self.view_is) may).0.0 in
    let handed = c.handed.ensures ∙ ap (λ (u : StoredUpdater). u.handed) (read_at c.self.inside.updaters.items c.args.i c.index.result.now (blank_updater 0) inside c.index.ensures) in
    let capacity = c.push_reserved.ensures.capacity in
    let room = k.room_tokens in
    let o = notes_at c.args.self.now (stored_of c.self.inside) c.self.view_is k.stored c.args.i c.handed.result c.len-number.result c.len-seen.result c.push_reserved.new.self.items _ refl handed (c.len-seen.ensures ∙ c.self.inside.published.ok.0) c.push_reserved.ensures.items (c.len-number.ensures ∙ c.self.inside.tokens.ok.0) may in
    record { stored = o.0; sketch = k.sketch; room_offers = k.room_offers; room_published = k.room_published; room_in_hand = k.room_in_hand; room_tokens = omega arith }

pub returns : goal.returns
returns c =
    let k = c.self.invariant in
    let may = c.may_note.ensures.0 (search rules) in
    let inside = (subst (λ (o : Stored). MayNote c.args.i (machine_of o)) (sym c.self.view_is) may).0.0 in
    let handed = c.handed.ensures ∙ ap (λ (u : StoredUpdater). u.handed) (read_at c.self.inside.updaters.items c.args.i c.index.result.now (blank_updater 0) inside c.index.ensures) in
    let capacity = c.push_reserved.ensures.capacity in
    let room = k.room_tokens in
    let o = notes_at c.args.self.now (stored_of c.self.inside) c.self.view_is k.stored c.args.i c.handed.result c.len-number.result c.len-seen.result c.push_reserved.new.self.items _ refl handed (c.len-seen.ensures ∙ c.self.inside.published.ok.0) c.push_reserved.ensures.items (c.len-number.ensures ∙ c.self.inside.tokens.ok.0) may in
    o.1
