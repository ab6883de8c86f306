use Rattle.std.proofs.Common.{rules, ◌≢◌, ◌∙◌, subst, ap, sym, refl, true, false, inl, inr}
use Rattle.sk_gate.specs.Slots.{sketching, telling}
use Rattle.sk_gate.specs.Views.{size_of}
use Rattle.sk_gate.specs.Hands.{own_looked, seat_state, Holds}
use Rattle.sk_gate.proofs.Updaters.{looks}
use Rattle.sk_gate.proofs.Own.{looked_holds, looked_takes, looked_shown}
use Rattle.sk_gate.proofs.SeatState.{own_shown}
use Rattle.sk_gate.proofs.updater.Propagator+C+OfUpdater.look.Goals as goal

pub load-found-requires : goal.load-found-requires
load-found-requires g c = let k = g.C.Composable in let i = c.self.invariant in let there = subst (λ s. size_of s.view s.number ≢ 0) (sym c.self.view_is) c.requires.admitted in (
  search rules,
  search rules,
  looks k.hint_of k.packed_of (sketching k.is_of k.numbers k.name) (telling k.tells k.told_name k.told_of) _ _ c.self.inside.updaters _ c.self.inside.number (search rules) i.4.live i.4.post.0 there,
)

pub invariant_of-self : goal.invariant_of-self
invariant_of-self g c = let k = g.C.Composable in let i = c.self.invariant in let there = subst (λ s. size_of s.view s.number ≢ 0) (sym c.self.view_is) c.requires.admitted in
    let e = c.load-found.ensures.2 c.self.inside.number i.4.post.0 refl there in (
      search rules,
      search rules,
      search rules,
      search rules,
      subst (Holds (sketching k.is_of k.numbers k.name) (telling k.tells k.told_name k.told_of) false c.self.inside.updaters c.self.inside.number c.self.inside.front true) (sym c.turn.ensures.2)
          (looked_takes (sketching k.is_of k.numbers k.name) (telling k.tells k.told_name k.told_of) k.hint_of _ _ _ _ _ _ _ i.4 e.0 e.1 c.if-found-ne0.true c.if-not-self.true there),
    )

pub invariant_of-self-else-not-self : goal.invariant_of-self-else-not-self
invariant_of-self-else-not-self g c = let k = g.C.Composable in let i = c.self.invariant in let there = subst (λ s. size_of s.view s.number ≢ 0) (sym c.self.view_is) c.requires.admitted in
    let e = c.load-found.ensures.2 c.self.inside.number i.4.post.0 refl there in
    let nothing = ap (λ o. o.items) (own_shown (sketching k.is_of k.numbers k.name) (telling k.tells k.told_name k.told_of) false _ _ _ _ _ _ _ i.4 c.self.view_is) ∙ c.requires.unswapped in
    (search rules, search rules, search rules, search rules, looked_holds (sketching k.is_of k.numbers k.name) (telling k.tells k.told_name k.told_of) k.hint_of _ _ _ _ _ _ _ i.4 nothing e.0 e.1 (inr c.if-not-self.false))

pub invariant_of-self-else-found-ne0 : goal.invariant_of-self-else-found-ne0
invariant_of-self-else-found-ne0 g c = let k = g.C.Composable in let i = c.self.invariant in let there = subst (λ s. size_of s.view s.number ≢ 0) (sym c.self.view_is) c.requires.admitted in
    let e = c.load-found.ensures.2 c.self.inside.number i.4.post.0 refl there in
    let nothing = ap (λ o. o.items) (own_shown (sketching k.is_of k.numbers k.name) (telling k.tells k.told_name k.told_of) false _ _ _ _ _ _ _ i.4 c.self.view_is) ∙ c.requires.unswapped in
    (search rules, search rules, search rules, search rules, looked_holds (sketching k.is_of k.numbers k.name) (telling k.tells k.told_name k.told_of) k.hint_of _ _ _ _ _ _ _ i.4 nothing e.0 e.1 (inl c.if-found-ne0.false))

pub returns-then-not-self-clause-seat : goal.returns-then-not-self-clause-seat
returns-then-not-self-clause-seat g c = let k = g.C.Composable in let i = c.self.invariant in let f = c.self.inside in let now = c.args.self.now in let there = subst (λ s. size_of s.view s.number ≢ 0) (sym c.self.view_is) c.requires.admitted in
    let e = c.load-found.ensures.2 f.number i.4.post.0 refl there in let t = c.turn.ensures in let table = t.0 ∙ c.load-found.ensures.0 in
    (λ a. seat_state (t.2 a).0 (table a) f.number f.front (t.2 a).1)
    ∙ looked_shown (sketching k.is_of k.numbers k.name) (telling k.tells k.told_name k.told_of) k.hint_of f.updaters f.number f.front c.load-found.result f.own f.seat.me c.load-found.new.seat.me f.seat.table_id now i.4 c.self.view_is e.0 e.1 c.if-found-ne0.true c.if-not-self.true
    ∙ λ a. record now { view = (sym t.2 a).0; own = own_looked c.load-found.result now.view now.number now.own }
