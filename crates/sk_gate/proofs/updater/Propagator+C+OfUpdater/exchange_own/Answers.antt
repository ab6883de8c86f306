use Rattle.std.proofs.Common.{rules, ◌≡◌, ◌≢◌, ◌∙◌, [], subst, ap, sym, true, false}
use Rattle.sk_gate.specs.Slots.{sketching, telling, TellsList}
use Rattle.sk_gate.specs.Views.{mine_of}
use Rattle.sk_gate.specs.Hands.{SeatState, seat_state, Holds, MayLie}
use Rattle.sk_gate.proofs.Own.{own_placed, own_put, own_taken, put_own, exchanged_shown}
use Rattle.sk_gate.proofs.updater.Propagator+C+OfUpdater.exchange_own.Goals as goal

pub exchange-empty-requires-clause-placed : goal.exchange-empty-requires-clause-placed
exchange-empty-requires-clause-placed g c = let k = g.C.Composable in let i = c.self.invariant in let on = i.4.own_is ∙ subst (λ s. (mine_of s.view).ready ≡ true) (sym c.self.view_is) c.requires.ready in
    own_placed (sketching k.is_of k.numbers k.name) (telling k.tells k.told_name k.told_of) false _ _ _ _ _ i.4 on

pub parcel_in-requires : goal.parcel_in-requires
parcel_in-requires g c = let k = g.C.Composable in let i = c.self.invariant in let on = i.4.own_is ∙ subst (λ s. (mine_of s.view).ready ≡ true) (sym c.self.view_is) c.requires.ready in
    let t = own_put (sketching k.is_of k.numbers k.name) (telling k.tells k.told_name k.told_of) false _ _ _ _ _ _ _ _ i.4 on c.exchange-empty.ensures.old in (t.0, t.1)

pub invariant_of-self : goal.invariant_of-self
invariant_of-self g c = let k = g.C.Composable in let i = c.self.invariant in let f = c.self.inside in let on = i.4.own_is ∙ subst (λ s. (mine_of s.view).ready ≡ true) (sym c.self.view_is) c.requires.ready in let e = c.exchange-empty.ensures in
    let t = own_put (sketching k.is_of k.numbers k.name) (telling k.tells k.told_name k.told_of) false _ _ _ _ _ _ _ _ i.4 on e.old in (
      search rules,
      search rules,
      search rules,
      search rules,
      subst (Holds (sketching k.is_of k.numbers k.name) (telling k.tells k.told_name k.told_of) false f.updaters f.number f.front f.own) (λ a. (sym e.view a, c.exchange-empty.new.seat.me.1))
          (put_own (sketching k.is_of k.numbers k.name) (telling k.tells k.told_name k.told_of) false _ _ _ _ _ c.args.parcel c.exchange-empty.new.seat.me.1 i.4 on (subst (λ (s : SeatState). MayLie s.view (telling k.tells k.told_name k.told_of) s.number c.args.parcel) (sym c.self.view_is) c.requires.fits) t.4),
    )

pub returns-clause-empty : goal.returns-clause-empty
returns-clause-empty g c = let k = g.C.Composable in let i = c.self.invariant in let on = i.4.own_is ∙ subst (λ s. (mine_of s.view).ready ≡ true) (sym c.self.view_is) c.requires.ready in
    let t = own_taken (sketching k.is_of k.numbers k.name) (telling k.tells k.told_name k.told_of) false _ _ _ _ _ _ _ _ _ c.parcel_in.result _ i.4 on c.self.view_is c.requires.unswapped c.exchange-empty.ensures.old c.parcel_in.ensures in
    λ a. record { items = t.1.0 a; capacity = (ap (λ o. o.capacity) (sym t.0)) a }

pub returns-clause-told : goal.returns-clause-told
returns-clause-told g c = let k = g.C.Composable in let i = c.self.invariant in let on = i.4.own_is ∙ subst (λ s. (mine_of s.view).ready ≡ true) (sym c.self.view_is) c.requires.ready in
    let t = own_taken (sketching k.is_of k.numbers k.name) (telling k.tells k.told_name k.told_of) false _ _ _ _ _ _ _ _ _ c.parcel_in.result _ i.4 on c.self.view_is c.requires.unswapped c.exchange-empty.ensures.old c.parcel_in.ensures in
    ap (λ o. o.told) (sym t.0)

pub returns-clause-tells : goal.returns-clause-tells
returns-clause-tells g c = let k = g.C.Composable in let i = c.self.invariant in let on = i.4.own_is ∙ subst (λ s. (mine_of s.view).ready ≡ true) (sym c.self.view_is) c.requires.ready in
    let t = own_taken (sketching k.is_of k.numbers k.name) (telling k.tells k.told_name k.told_of) false _ _ _ _ _ _ _ _ _ c.parcel_in.result _ i.4 on c.self.view_is c.requires.unswapped c.exchange-empty.ensures.old c.parcel_in.ensures in
    λ x is. subst (λ (s : SeatState). ((mine_of s.view).handed ≢ []) × TellsList (telling k.tells k.told_name k.told_of) s.view.name x (mine_of s.view).base) c.self.view_is (t.1.1 x is)

pub returns-clause-seat : goal.returns-clause-seat
returns-clause-seat g c = let k = g.C.Composable in let i = c.self.invariant in let f = c.self.inside in let now = c.args.self.now in let on = i.4.own_is ∙ subst (λ s. (mine_of s.view).ready ≡ true) (sym c.self.view_is) c.requires.ready in let e = c.exchange-empty.ensures in
    let t = own_put (sketching k.is_of k.numbers k.name) (telling k.tells k.told_name k.told_of) false _ _ _ _ _ _ _ _ i.4 on e.old in
    (λ a. seat_state c.exchange-empty.new.seat.me.0 (e.table a) f.number f.front c.exchange-empty.new.seat.me.1)
    ∙ exchanged_shown (sketching k.is_of k.numbers k.name) (telling k.tells k.told_name k.told_of) false f.updaters f.number f.front f.own f.seat.me c.exchange-empty.new.seat.me f.seat.table_id now c.args.parcel i.4 c.self.view_is e.view t.4
