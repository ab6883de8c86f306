use Rattle.std.proofs.Common.{rules, sym, ap, ◌∙◌, subst}
use Rattle.sk_core.specs.Stored.{StoredUpdater, Stored, blank_updater, machine_of}
use Rattle.sk_core.specs.Inside.{stored_of}
use Rattle.sk_machine.specs.Fine.{MayFind}
use Rattle.sk_core.proofs.Propagator.{finds_stored}
use Rattle.sk_core.proofs.Machine.{read_at}
use Rattle.sk_core.proofs.state.State.find.Goals as goal

pub invariant_of-self : goal.invariant_of-self
invariant_of-self c =
    let k = c.self.invariant in
    let may = subst (λ (o : Stored). MayFind c.args.i (machine_of o)) (sym c.self.view_is) (c.may_find.ensures.0 (search rules)) in
    let none = sym (ap (λ (u : StoredUpdater). u.word) (read_at c.self.inside.updaters.items c.args.i c.index.result.now (blank_updater 0) may.0 c.index.ensures)) ∙ sym c.word.ensures ∙ c.if-word-ne0.false in
    record { stored = finds_stored (stored_of c.self.inside) c.args.i k.stored none may; sketch = k.sketch; room_offers = k.room_offers; room_published = k.room_published; room_in_hand = k.room_in_hand; room_tokens = k.room_tokens }
