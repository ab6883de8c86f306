use Rattle.std.proofs.Common.{◌≡◌, ◌∙◌, ap, sym, subst, set}
use Rattle.sk_model.specs.Missing.{Begins}
use Rattle.sk_gate.specs.Slots.{telling}
use Rattle.sk_hub.specs.Updaters.{UpdaterState, state_of}
use Rattle.sk_hub.specs.Hearts.{HeartState, heart_of}
use Rattle.sk_hub.specs.Drains.{IsSettled, IsDrained}
use Rattle.sk_hub.proofs.TakenIn.{heart_then, seen_then, drained_then}
use Rattle.sk_hub.proofs.heart.Heart.take_in.Goals as goal

pub invariant_of-self : goal.invariant_of-self
invariant_of-self g c = let k = g.C.Composable in let f = c.self.inside in let w = c.u.inside in let own = c.pick-told in
    let heart : HeartState = heart_of f.seat f.updaters f.admitted f.told.items f.eager in
    let updater : UpdaterState = state_of w.seat w.number w.size w.fill w.told w.hint w.last w.eager in
    let table : updater.table ≡ heart.table = ap (λ u. u.table) c.u.view_is ∙ c.requires.table ∙ sym (ap (λ h. h.table) c.self.view_is) in
    let settled : IsSettled updater = subst (λ u. IsSettled u) (sym c.u.view_is) c.requires.settled in
    heart_then k.hint_of k.packed_of (telling k.tells k.told_name k.told_of) f.seat w.seat own.new.self c.join.new.self c.ask.new.self c.ask.result f.vacant.items f.told.items f.updaters f.admitted w.number w.updaters w.size w.fill w.told w.hint w.taken w.last own.result
    c.self.invariant c.u.invariant own.ensures.seat own.ensures.tells own.ensures.told c.join.ensures.seat c.ask.ensures.told c.ask.ensures.seat settled.ready settled.fill table

pub returns-clause-drained : goal.returns-clause-drained
returns-clause-drained g c = let k = g.C.Composable in let f = c.self.inside in let w = c.u.inside in let own = c.pick-told in
    let heart : HeartState = heart_of f.seat f.updaters f.admitted f.told.items f.eager in
    let updater : UpdaterState = state_of w.seat w.number w.size w.fill w.told w.hint w.last w.eager in
    let table : updater.table ≡ heart.table = ap (λ u. u.table) c.u.view_is ∙ c.requires.table ∙ sym (ap (λ h. h.table) c.self.view_is) in
    let settled : IsSettled updater = subst (λ u. IsSettled u) (sym c.u.view_is) c.requires.settled in
    let after : HeartState = heart_of c.ask.new.self f.updaters f.admitted (set f.told.items w.number own.result.told) f.eager in
    let drained : IsDrained heart updater after = drained_then k.hint_of k.packed_of (telling k.tells k.told_name k.told_of) f.seat w.seat own.new.self c.join.new.self c.ask.new.self c.ask.result f.vacant.items f.told.items f.updaters f.admitted w.number w.updaters w.size w.fill w.told w.hint w.taken w.last own.result
    c.self.invariant c.u.invariant own.ensures.seat own.ensures.tells own.ensures.told c.join.ensures.seat c.ask.ensures.told c.ask.ensures.seat settled.ready settled.fill table f.eager w.eager in
    subst (λ h. IsDrained h c.args.u after) c.self.view_is (subst (λ u. IsDrained heart u after) c.u.view_is drained)

pub returns-clause-seen : goal.returns-clause-seen
returns-clause-seen g c = let k = g.C.Composable in let f = c.self.inside in let w = c.u.inside in let own = c.pick-told in
    let heart : HeartState = heart_of f.seat f.updaters f.admitted f.told.items f.eager in
    let updater : UpdaterState = state_of w.seat w.number w.size w.fill w.told w.hint w.last w.eager in
    let table : updater.table ≡ heart.table = ap (λ u. u.table) c.u.view_is ∙ c.requires.table ∙ sym (ap (λ h. h.table) c.self.view_is) in
    let settled : IsSettled updater = subst (λ u. IsSettled u) (sym c.u.view_is) c.requires.settled in
    let seen : Begins f.seat.view.seen c.ask.new.self.view.seen = seen_then k.hint_of k.packed_of (telling k.tells k.told_name k.told_of) f.seat w.seat own.new.self c.join.new.self c.ask.new.self c.ask.result f.vacant.items f.told.items f.updaters f.admitted w.number w.updaters w.size w.fill w.told w.hint w.taken w.last own.result
    c.self.invariant c.u.invariant own.ensures.seat own.ensures.tells own.ensures.told c.join.ensures.seat c.ask.ensures.told c.ask.ensures.seat settled.ready settled.fill table in
    subst (λ h. Begins h.view.seen c.ask.new.self.view.seen) c.self.view_is seen
