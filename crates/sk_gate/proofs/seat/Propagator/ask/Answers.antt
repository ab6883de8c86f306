use Rattle.std.proofs.Common.{rules}
use Rattle.sk_gate.specs.Slots.{sketching, telling}
use Rattle.sk_gate.proofs.Updaters.{asks}
use Rattle.sk_gate.proofs.Own.{asked_holds}
use Rattle.sk_gate.proofs.seat.Propagator.ask.Goals as goal

pub load-requires : goal.load-requires
load-requires g c = let k = g.C.Composable in let i = c.self.invariant in (
  search rules,
  search rules,
  asks k.hint_of k.packed_of (sketching k.is_of k.numbers k.name) (telling k.tells k.told_name k.told_of) _ _ c.self.inside.updaters _ (search rules) i.4.live,
)

pub invariant_of-self : goal.invariant_of-self
invariant_of-self g c = let k = g.C.Composable in let i = c.self.invariant in let e = c.load.ensures in
    (search rules, search rules, search rules, search rules, asked_holds (sketching k.is_of k.numbers k.name) (telling k.tells k.told_name k.told_of) k.packed_of _ _ _ _ _ _ _ _ i.4 e.2.0 e.2.1)
