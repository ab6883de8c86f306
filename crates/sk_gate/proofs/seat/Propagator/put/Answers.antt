use Rattle.std.proofs.Common.{rules, ◌+◌, ap, refl}
use Rattle.sk_gate.specs.Slots.{sketching, telling}
use Rattle.sk_gate.proofs.Leading.{put_at, put_next}
use Rattle.sk_gate.proofs.seat.Propagator.put.Goals as goal

pub exchange-requires-clause-placed : goal.exchange-requires-clause-placed
exchange-requires-clause-placed g c = let k = g.C.Composable in let i = c.self.invariant in
    put_at (sketching k.is_of k.numbers k.name) (telling k.tells k.told_name k.told_of) i.4 c.self.view_is c.args.i _ c.requires.published c.requires.taken (ap (λ a. 1 + a) c.from-behind.ensures)

pub invariant_of-self : goal.invariant_of-self
invariant_of-self g c = let k = g.C.Composable in let i = c.self.invariant in let e = c.exchange.ensures in let t = c.requires.told in
    let n = put_next (sketching k.is_of k.numbers k.name) (telling k.tells k.told_name k.told_of) i.4 c.self.view_is c.exchange.new.seat.me _ c.args.i _ _ c.args.empty t.0 c.requires.published c.requires.taken c.requires.empty t.1 t.2 (ap (λ a. 1 + a) c.from-behind.ensures) refl e.view e.old in
    (search rules, search rules, search rules, i.3, n.0)

pub returns : goal.returns
returns g c = let k = g.C.Composable in let i = c.self.invariant in let e = c.exchange.ensures in let t = c.requires.told in record {
  seat = (put_next (sketching k.is_of k.numbers k.name) (telling k.tells k.told_name k.told_of) i.4 c.self.view_is c.exchange.new.seat.me c.exchange.new.seat.table_id c.args.i _ _ c.args.empty t.0 c.requires.published c.requires.taken c.requires.empty t.1 t.2 (ap (λ a. 1 + a) c.from-behind.ensures) e.table e.view e.old).1;
}
