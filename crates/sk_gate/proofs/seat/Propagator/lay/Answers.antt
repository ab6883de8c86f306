use Rattle.std.proofs.Common.{rules, refl}
use Rattle.sk_gate.specs.Slots.{sketching, telling}
use Rattle.sk_gate.proofs.Leading.{trunk_at, laid_next}
use Rattle.sk_gate.proofs.seat.Propagator.lay.Goals as goal

pub exchange-requires-clause-placed : goal.exchange-requires-clause-placed
exchange-requires-clause-placed g c = let k = g.C.Composable in let i = c.self.invariant in
    trunk_at (sketching k.is_of k.numbers k.name) (telling k.tells k.told_name k.told_of) i.4 c.self.view_is c.from-own.result c.requires.led c.from-own.ensures

pub invariant_of-self : goal.invariant_of-self
invariant_of-self g c = let k = g.C.Composable in let i = c.self.invariant in let e = c.exchange.ensures in
    let n = laid_next (sketching k.is_of k.numbers k.name) (telling k.tells k.told_name k.told_of) i.4 c.self.view_is c.exchange.new.seat.me _ _ _ c.args.trunk c.requires.led c.requires.lifted c.requires.trunk c.from-own.ensures refl e.view e.old in
    (search rules, search rules, search rules, i.3, n.0)

pub returns : goal.returns
returns g c = let k = g.C.Composable in let i = c.self.invariant in let e = c.exchange.ensures in record {
  seat = (laid_next (sketching k.is_of k.numbers k.name) (telling k.tells k.told_name k.told_of) i.4 c.self.view_is c.exchange.new.seat.me c.exchange.new.seat.table_id _ _ c.args.trunk c.requires.led c.requires.lifted c.requires.trunk c.from-own.ensures e.table e.view e.old).1;
}
