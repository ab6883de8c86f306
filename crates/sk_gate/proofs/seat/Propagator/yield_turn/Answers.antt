use Rattle.std.proofs.Common.{rules, subst, refl}
use Rattle.sk_gate.specs.Slots.{sketching, telling}
use Rattle.sk_gate.specs.Moves.{YieldsAt}
use Rattle.sk_gate.proofs.Leading.{view_is, yields_at, yielded_next}
use Rattle.sk_gate.proofs.seat.Propagator.yield_turn.Goals as goal

pub store-requires : goal.store-requires
store-requires g c = let k = g.C.Composable in let i = c.self.invariant in (
  search rules,
  search rules,
  yields_at (sketching k.is_of k.numbers k.name) (telling k.tells k.told_name k.told_of) i.4 c.self.view_is k.hint_of k.packed_of _ _ (search rules) c.requires.led c.requires.laid,
)

pub invariant_of-self : goal.invariant_of-self
invariant_of-self g c = let k = g.C.Composable in let i = c.self.invariant in let e = c.store.ensures in (
  search rules,
  search rules,
  search rules,
  i.3,
  (yielded_next (sketching k.is_of k.numbers k.name) (telling k.tells k.told_name k.told_of) i.4 c.self.view_is c.store.new.seat.me _ c.requires.led c.requires.laid refl e.2.0 e.2.1).0,
)

pub returns-clause-told : goal.returns-clause-told
returns-clause-told g c = let k = g.C.Composable in let i = c.self.invariant in
    subst (λ y. YieldsAt y c.store.new.seat.me.0) (view_is (sketching k.is_of k.numbers k.name) (telling k.tells k.told_name k.told_of) i.4 c.self.view_is) c.store.ensures.2.0

pub returns-clause-seat : goal.returns-clause-seat
returns-clause-seat g c = let k = g.C.Composable in let i = c.self.invariant in let e = c.store.ensures in
    (yielded_next (sketching k.is_of k.numbers k.name) (telling k.tells k.told_name k.told_of) i.4 c.self.view_is c.store.new.seat.me c.store.new.seat.table_id c.requires.led c.requires.laid e.0 e.2.0 e.2.1).1
