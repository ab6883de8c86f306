use Rattle.std.proofs.Common.{rules, false, sym, subst}
use Rattle.sk_gate.specs.Slots.{sketching, telling}
use Rattle.sk_gate.specs.Hands.{Holds}
use Rattle.sk_gate.proofs.Seats.{copies, split_holds}
use Rattle.sk_gate.proofs.updater.Propagator+C+OfUpdater.split.Goals as goal

pub split_seat-seat-requires : goal.split_seat-seat-requires
split_seat-seat-requires g c = let k = g.C.Composable in
    (search rules, search rules, copies k.hint_of k.packed_of (sketching k.is_of k.numbers k.name) (telling k.tells k.told_name k.told_of) _ _ c.self.invariant.4.live)

pub invariant_of-self : goal.invariant_of-self
invariant_of-self g c = let k = g.C.Composable in let gs = sketching k.is_of k.numbers k.name in let ts = telling k.tells k.told_name k.told_of in let f = c.self.inside in (
  search rules,
  search rules,
  search rules,
  search rules,
  subst (Holds gs ts false f.updaters f.number f.front f.own) (sym c.split_seat-seat.ensures.2) (split_holds gs ts false f.updaters f.number f.front f.own f.seat.me c.self.invariant.4),
)
