use Rattle.std.proofs.Common.{rules, ◌∙◌, not, length, ap, refl}
use Rattle.sk_gate.specs.Slots.{sketching, telling}
use Rattle.sk_gate.specs.Hands.{has_trunk}
use Rattle.sk_gate.proofs.Turns.{turns}
use Rattle.sk_gate.proofs.Leading.{seat_at, view_is, taken_sizes, turned_next, missed_next}
use Rattle.sk_gate.proofs.seat.Propagator.turn.Goals as goal

pub compare_exchange-found-requires : goal.compare_exchange-found-requires
compare_exchange-found-requires g c = let k = g.C.Composable in let i = c.self.invariant in let who = seat_at c.self.inside.seat.me.0 g.R.Role.is_heart c.self.inside.updaters c.self.inside.number i.4.post in (
  search rules,
  search rules,
  turns k.hint_of k.packed_of (sketching k.is_of k.numbers k.name) (telling k.tells k.told_name k.told_of) _ _ c.self.inside.updaters c.from-mine.result _ (search rules) i.3 (c.from-mine.ensures ∙ who.0) (search rules) i.4.live (search rules),
)

pub invariant_of-self : goal.invariant_of-self
invariant_of-self g c = let k = g.C.Composable in let i = c.self.invariant in let e = c.compare_exchange-found.ensures in let ne = c.if-found-ne0.true in (
  search rules,
  search rules,
  search rules,
  i.3,
  (missed_next (sketching k.is_of k.numbers k.name) (telling k.tells k.told_name k.told_of) i.4 c.self.view_is _ _ _ c.requires.free refl (e.2.0.1 ne) (e.2.1 ne)).0,
)

pub invariant_of-self-2 : goal.invariant_of-self-2
invariant_of-self-2 g c = let k = g.C.Composable in let i = c.self.invariant in let e = c.compare_exchange-found.ensures in let z = c.if-found-ne0.false in let t = e.2.2 z _ refl in (
  search rules,
  search rules,
  search rules,
  i.3,
  (turned_next (sketching k.is_of k.numbers k.name) (telling k.tells k.told_name k.told_of) i.4 c.self.view_is _ _ t.0 c.requires.free refl (e.2.0.0 z) t.1 t.2).0,
)

pub returns-clause-seat : goal.returns-clause-seat
returns-clause-seat g c = let k = g.C.Composable in let i = c.self.invariant in let e = c.compare_exchange-found.ensures in let z = c.if-found-ne0.false in let t = e.2.2 z _ refl in
    (turned_next (sketching k.is_of k.numbers k.name) (telling k.tells k.told_name k.told_of) i.4 c.self.view_is _ _ t.0 c.requires.free e.0 (e.2.0.0 z) t.1 t.2).1

pub returns-clause-slots : goal.returns-clause-slots
returns-clause-slots g c = let t = c.compare_exchange-found.ensures.2.2 c.if-found-ne0.false _ refl in (refl, ap (λ l. not (has_trunk l)) t.1)

pub returns-clause-sizes : goal.returns-clause-sizes
returns-clause-sizes g c = let view = view_is (sketching g.C.Composable.is_of g.C.Composable.numbers g.C.Composable.name) (telling g.C.Composable.tells g.C.Composable.told_name g.C.Composable.told_of) c.self.invariant.4 c.self.view_is in
    taken_sizes _ _ (c.compare_exchange-found.ensures.2.0.0 c.if-found-ne0.false) ∙ ap (λ v. length v.sizes) view
