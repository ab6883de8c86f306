use Rattle.std.proofs.Common.{rules, ◌+◌, ◌∙◌, ap, sym, refl}
use Rattle.sk_gate.specs.Slots.{sketching, telling}
use Rattle.sk_gate.proofs.Leading.{taken_at, taken_next, same_parcel}
use Rattle.sk_gate.proofs.seat.Propagator.take.Goals as goal

pub exchange-parcel-requires-clause-placed : goal.exchange-parcel-requires-clause-placed
exchange-parcel-requires-clause-placed g c = let k = g.C.Composable in let i = c.self.invariant in
    taken_at (sketching k.is_of k.numbers k.name) (telling k.tells k.told_name k.told_of) i.4 c.self.view_is c.args.i _ c.requires.found c.requires.there (ap (λ a. 1 + a) c.from-behind.ensures)

pub parcel_in-requires : goal.parcel_in-requires
parcel_in-requires g c = let k = g.C.Composable in let i = c.self.invariant in let e = c.exchange-parcel.ensures in
    let t = taken_next (sketching k.is_of k.numbers k.name) (telling k.tells k.told_name k.told_of) i.4 c.self.view_is c.exchange-parcel.new.seat.me _ c.args.i _ _ c.requires.found c.requires.there (ap (λ a. 1 + a) c.from-behind.ensures) refl e.view e.old in (t.0.0, t.0.1)

pub invariant_of-self : goal.invariant_of-self
invariant_of-self g c = let k = g.C.Composable in let i = c.self.invariant in let e = c.exchange-parcel.ensures in
    let t = taken_next (sketching k.is_of k.numbers k.name) (telling k.tells k.told_name k.told_of) i.4 c.self.view_is c.exchange-parcel.new.seat.me _ c.args.i _ _ c.requires.found c.requires.there (ap (λ a. 1 + a) c.from-behind.ensures) refl e.view e.old in
    (search rules, search rules, search rules, i.3, t.3.0)

pub returns-clause-buffer : goal.returns-clause-buffer
returns-clause-buffer g c = let k = g.C.Composable in let i = c.self.invariant in let e = c.exchange-parcel.ensures in
    let t = taken_next (sketching k.is_of k.numbers k.name) (telling k.tells k.told_name k.told_of) i.4 c.self.view_is c.exchange-parcel.new.seat.me _ c.args.i _ _ c.requires.found c.requires.there (ap (λ a. 1 + a) c.from-behind.ensures) refl e.view e.old in
    ap (λ p. p.buffer) (same_parcel (sym c.parcel_in.ensures ∙ t.0.1)) ∙ t.0.2

pub returns-clause-seat : goal.returns-clause-seat
returns-clause-seat g c = let k = g.C.Composable in let i = c.self.invariant in let e = c.exchange-parcel.ensures in
    let t = taken_next (sketching k.is_of k.numbers k.name) (telling k.tells k.told_name k.told_of) i.4 c.self.view_is c.exchange-parcel.new.seat.me c.exchange-parcel.new.seat.table_id c.args.i _ _ c.requires.found c.requires.there (ap (λ a. 1 + a) c.from-behind.ensures) e.table e.view e.old in
    t.3.1
