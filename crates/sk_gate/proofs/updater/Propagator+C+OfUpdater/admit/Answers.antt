use Rattle.std.proofs.Common.{rules, ◌≡◌, ◌∙◌, [], subst, sym, refl, true, false}
use Rattle.sk_gate.specs.Slots.{sketching, telling}
use Rattle.sk_gate.specs.Views.{size_of}
use Rattle.sk_gate.specs.Hands.{SeatState, seat_state, Holds}
use Rattle.sk_gate.specs.Moves.{AdmitsAt}
use Rattle.sk_gate.proofs.Updaters.{admits}
use Rattle.sk_gate.proofs.Own.{own_vacant, admitted_holds, admitted_shown}
use Rattle.sk_gate.proofs.updater.Propagator+C+OfUpdater.admit.Goals as goal

pub admitted_look-hint-requires : goal.admitted_look-hint-requires
admitted_look-hint-requires g c = let k = g.C.Composable in let i = c.self.invariant in let vacant = subst (λ s. size_of s.view s.number ≡ 0) (sym c.self.view_is) c.requires.vacant in record {
  size = refl;
  table = search rules;
  word = search rules;
  may = admits k.hint_of k.packed_of (sketching k.is_of k.numbers k.name) (telling k.tells k.told_name k.told_of) _ _ c.self.inside.updaters _ c.self.inside.number c.args.b (search rules) i.4.live i.4.post.0 i.4.post.3 vacant c.requires.least;
}

pub invariant_of-self : goal.invariant_of-self
invariant_of-self g c = let k = g.C.Composable in let i = c.self.invariant in let f = c.self.inside in let vacant = subst (λ s. size_of s.view s.number ≡ 0) (sym c.self.view_is) c.requires.vacant in
    let e = c.admitted_look-hint.ensures.told f.number i.4.post.0 refl vacant in let p = e.1 in (
      search rules,
      search rules,
      search rules,
      search rules,
      subst (Holds (sketching k.is_of k.numbers k.name) (telling k.tells k.told_name k.told_of) false f.updaters f.number f.front true) (sym c.turn.ensures.2)
          (admitted_holds (sketching k.is_of k.numbers k.name) (telling k.tells k.told_name k.told_of) k.hint_of f.updaters f.number f.front c.admitted_look-hint.result c.args.b f.own f.seat.me c.admitted_look-hint.new.seat.me p.0 i.4
          (own_vacant (sketching k.is_of k.numbers k.name) (telling k.tells k.told_name k.told_of) false _ _ _ _ _ i.4 vacant) vacant c.requires.least e.0 p.1 p.2 p.3),
    )

pub returns-clause-told : goal.returns-clause-told
returns-clause-told g c = let k = g.C.Composable in let i = c.self.invariant in let f = c.self.inside in let vacant = subst (λ s. size_of s.view s.number ≡ 0) (sym c.self.view_is) c.requires.vacant in
    let e = c.admitted_look-hint.ensures.told f.number i.4.post.0 refl vacant in let t = c.turn.ensures.2 in
    subst (λ (s : SeatState). AdmitsAt k.hint_of s.view c.admitted_look-hint.result c.turn.new.self.me.0 s.number c.args.b) c.self.view_is (subst (λ w. AdmitsAt k.hint_of f.seat.me.0 c.admitted_look-hint.result w f.number c.args.b) (λ a. (sym t a).0) e.0)

pub returns-clause-seat : goal.returns-clause-seat
returns-clause-seat g c = let k = g.C.Composable in let i = c.self.invariant in let f = c.self.inside in let now = c.args.self.now in let vacant = subst (λ s. size_of s.view s.number ≡ 0) (sym c.self.view_is) c.requires.vacant in
    let e = c.admitted_look-hint.ensures.told f.number i.4.post.0 refl vacant in let p = e.1 in let t = c.turn.ensures in let table = t.0 ∙ c.admitted_look-hint.ensures.table in
    (λ a. seat_state (t.2 a).0 (table a) f.number f.front (t.2 a).1)
    ∙ admitted_shown (sketching k.is_of k.numbers k.name) (telling k.tells k.told_name k.told_of) f.updaters f.number f.front f.own f.seat.me c.admitted_look-hint.new.seat.me f.seat.table_id now p.0 i.4 c.self.view_is vacant p.1 p.2 p.3
    ∙ λ a. record now { view = (sym t.2 a).0; own = record { items = []; capacity = 1; told = false } }
