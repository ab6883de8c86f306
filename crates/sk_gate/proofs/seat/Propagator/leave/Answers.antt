use Rattle.std.proofs.Common.{rules, subst, refl}
use Rattle.sk_gate.specs.Slots.{sketching, telling}
use Rattle.sk_gate.specs.Moves.{LeavesAt}
use Rattle.sk_gate.proofs.Leading.{view_is, leaves_at, left_next}
use Rattle.sk_gate.proofs.seat.Propagator.leave.Goals as goal

pub load-requires : goal.load-requires
load-requires g c = let k = g.C.Composable in let i = c.self.invariant in (
  search rules,
  search rules,
  leaves_at (sketching k.is_of k.numbers k.name) (telling k.tells k.told_name k.told_of) i.4 c.self.view_is k.hint_of k.packed_of _ _ c.args.i (search rules) c.requires.found c.requires.taken,
)

pub invariant_of-self : goal.invariant_of-self
invariant_of-self g c = let k = g.C.Composable in let i = c.self.invariant in let e = c.load.ensures in let t = e.2 c.args.i refl in (
  search rules,
  search rules,
  search rules,
  i.3,
  (left_next (sketching k.is_of k.numbers k.name) (telling k.tells k.told_name k.told_of) i.4 c.self.view_is c.load.new.seat.me _ c.args.i c.requires.found c.requires.taken c.requires.laid refl t.1 t.2).0,
)

pub returns-clause-told : goal.returns-clause-told
returns-clause-told g c = let k = g.C.Composable in let i = c.self.invariant in let t = c.load.ensures.2 c.args.i refl in
    subst (λ y. LeavesAt y c.load.new.seat.me.0 c.args.i) (view_is (sketching k.is_of k.numbers k.name) (telling k.tells k.told_name k.told_of) i.4 c.self.view_is) t.1

pub returns-clause-seat : goal.returns-clause-seat
returns-clause-seat g c = let k = g.C.Composable in let i = c.self.invariant in let e = c.load.ensures in let t = e.2 c.args.i refl in
    (left_next (sketching k.is_of k.numbers k.name) (telling k.tells k.told_name k.told_of) i.4 c.self.view_is c.load.new.seat.me c.load.new.seat.table_id c.args.i c.requires.found c.requires.taken c.requires.laid e.0 t.1 t.2).1
