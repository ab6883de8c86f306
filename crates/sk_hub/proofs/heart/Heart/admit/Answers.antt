use Rattle.std.proofs.Common.{◌≡◌, ◌<◌, Some, None, [], subst, arith}
use Rattle.sk_gate.specs.Slots.{contents, telling}
use Rattle.sk_hub.specs.Updaters.{UpdaterState, state_of}
use Rattle.sk_hub.specs.Drains.{IsNew}
use Rattle.sk_hub.proofs.Admits.{first_vacant, admitted_is, admitted_new}
use Rattle.sk_hub.proofs.heart.Heart.admit.Goals as goal

pub admit-hint-requires-clause-vacant : goal.admit-hint-requires-clause-vacant
admit-hint-requires-clause-vacant g c = let f = c.self.inside in
    let v = first_vacant f.updaters f.seat.table f.seat.view.numbers f.seat.view.name f.admitted f.vacant.items c.pop_front.new.self.items c.in-Some.seat c.in-Some.ensures.items c.self.invariant.vacant_are in
    rw v.number_is v.size

pub invariant_of-result : goal.invariant_of-result
invariant_of-result g c = let k = g.C.Composable in let f = c.self.inside in let i = c.self.invariant in
    let v = first_vacant f.updaters f.seat.table f.seat.view.numbers f.seat.view.name f.admitted f.vacant.items c.pop_front.new.self.items c.in-Some.seat c.in-Some.ensures.items i.vacant_are in
    let within : f.admitted < f.updaters = omega (arith, i.all, c.if-self.false) in
    let empty : c.in-Ok-Ok.fill ≡ contents [] c.args.b = λ e. contents (c.in-Ok-Ok.ensures.items e) (c.in-Ok-Ok.ensures.capacity e) in
    admitted_is k.hint_of (telling k.tells k.told_name k.told_of) f.seat c.in-Some.seat c.admit-hint.new.self c.pick.new.self f.updaters f.admitted c.args.b c.admit-hint.result c.in-Ok-Ok.fill v c.admit-hint.ensures.told c.admit-hint.ensures.seat c.pick.ensures.seat within empty i.few i.slots (c.requires.least, c.requires.most)

pub returns-clause-admitted : goal.returns-clause-admitted
returns-clause-admitted g c u is = let k = g.C.Composable in let f = c.self.inside in let i = c.self.invariant in
    let v = first_vacant f.updaters f.seat.table f.seat.view.numbers f.seat.view.name f.admitted f.vacant.items c.pop_front.new.self.items c.in-Some.seat c.in-Some.ensures.items i.vacant_are in
    let within : f.admitted < f.updaters = omega (arith, i.all, c.if-self.false) in
    let empty : c.in-Ok-Ok.fill ≡ contents [] c.args.b = λ e. contents (c.in-Ok-Ok.ensures.items e) (c.in-Ok-Ok.ensures.capacity e) in
    let new : UpdaterState = state_of {T = g.row.C-Told.Denot} c.pick.new.self f.admitted c.args.b (Some c.in-Ok-Ok.fill) None c.admit-hint.result 0 f.eager in
    let same : new ≡ u = cc in
    let is_new = admitted_new k.hint_of (telling k.tells k.told_name k.told_of) f.seat c.in-Some.seat c.admit-hint.new.self c.pick.new.self f.updaters f.admitted c.args.b c.admit-hint.result c.in-Ok-Ok.fill v c.admit-hint.ensures.told c.admit-hint.ensures.seat c.pick.ensures.seat within empty f.admitted f.told.items f.eager in
    subst (λ z. IsNew k.hint_of c.args.self.now.admitted c.args.b c.args.self.now z) same (subst (λ h. IsNew k.hint_of h.admitted c.args.b h new) c.self.view_is is_new)
