use Rattle.std.proofs.Common.{rules, ◌∙◌, sym, subst, refl}
use Rattle.sk_gate.specs.Slots.{sketching, telling, IsTrunkOf}
use Rattle.sk_gate.specs.Views.{size_of, stage_in}
use Rattle.sk_gate.proofs.Leading.{trunk_at, lifted_next, same_trunk}
use Rattle.sk_gate.proofs.seat.Propagator.lift.Goals as goal

pub exchange-trunk-requires-clause-placed : goal.exchange-trunk-requires-clause-placed
exchange-trunk-requires-clause-placed g c = let k = g.C.Composable in let i = c.self.invariant in
    trunk_at (sketching k.is_of k.numbers k.name) (telling k.tells k.told_name k.told_of) i.4 c.self.view_is c.from-own.result c.requires.led c.from-own.ensures

pub trunk_in-requires : goal.trunk_in-requires
trunk_in-requires g c = let k = g.C.Composable in let i = c.self.invariant in let e = c.exchange-trunk.ensures in
    let t = lifted_next (sketching k.is_of k.numbers k.name) (telling k.tells k.told_name k.told_of) i.4 c.self.view_is c.exchange-trunk.new.seat.me _ _ _ c.requires.led c.requires.laid c.from-own.ensures refl e.view e.old in (t.0.0, t.0.1)

pub invariant_of-self : goal.invariant_of-self
invariant_of-self g c = let k = g.C.Composable in let i = c.self.invariant in let e = c.exchange-trunk.ensures in
    let t = lifted_next (sketching k.is_of k.numbers k.name) (telling k.tells k.told_name k.told_of) i.4 c.self.view_is c.exchange-trunk.new.seat.me _ _ _ c.requires.led c.requires.laid c.from-own.ensures refl e.view e.old in
    (search rules, search rules, search rules, i.3, t.2.0)

pub returns-clause-trunk : goal.returns-clause-trunk
returns-clause-trunk g c = let k = g.C.Composable in let i = c.self.invariant in let e = c.exchange-trunk.ensures in let v = c.args.self.now.view in
    let t = lifted_next (sketching k.is_of k.numbers k.name) (telling k.tells k.told_name k.told_of) i.4 c.self.view_is c.exchange-trunk.new.seat.me _ _ _ c.requires.led c.requires.laid c.from-own.ensures refl e.view e.old in
    subst (IsTrunkOf (sketching k.is_of k.numbers k.name) v.numbers v.name v.seen (stage_in v.duty) (size_of v)) (same_trunk (sym t.0.1 ∙ c.trunk_in.ensures)) t.0.2

pub returns-clause-seat : goal.returns-clause-seat
returns-clause-seat g c = let k = g.C.Composable in let i = c.self.invariant in let e = c.exchange-trunk.ensures in
    let t = lifted_next (sketching k.is_of k.numbers k.name) (telling k.tells k.told_name k.told_of) i.4 c.self.view_is c.exchange-trunk.new.seat.me c.exchange-trunk.new.seat.table_id _ _ c.requires.led c.requires.laid c.from-own.ensures e.table e.view e.old in t.2.1
