use Rattle.std.proofs.Common.{rules, ◌≡◌, ◌∙◌, false, length, ap, sym, subst}
use Rattle.sk_gate.specs.Slots.{sketching, telling}
use Rattle.sk_gate.specs.Hands.{Holds}
use Rattle.sk_gate.proofs.Seats.{joins_note}
use Rattle.sk_gate.proofs.Taken.{taken_holds}
use Rattle.sk_gate.proofs.updater.Propagator+C+OfUpdater.join.Goals as goal

pub join_seat-requires : goal.join_seat-requires
join_seat-requires g c = let k = g.C.Composable in let note = c.other.invariant in (
  search rules,
  search rules,
  note.hand,
  search rules,
  joins_note k.hint_of k.packed_of (sketching k.is_of k.numbers k.name) (telling k.tells k.told_name k.told_of) _ _ _ _ c.self.invariant.4.live note.live note.post note.duty,
)

pub invariant_of-self : goal.invariant_of-self
invariant_of-self g c = let k = g.C.Composable in let gs = sketching k.is_of k.numbers k.name in let ts = telling k.tells k.told_name k.told_of in let f = c.self.inside in
    let long : length c.other.inside.seat.me.0.sizes ≡ f.updaters = ap (λ s. length s.view.sizes) c.other.view_is ∙ c.requires.sized ∙ sym (ap (λ s. length s.view.sizes) c.self.view_is) ∙ c.self.invariant.4.sized in (
      search rules,
      search rules,
      search rules,
      search rules,
      subst (Holds gs ts false f.updaters f.number f.front f.own) (sym c.join_seat.ensures.2) (taken_holds gs ts false f.updaters f.number f.front f.own f.seat.me c.other.inside.seat.me.0 c.self.invariant.4 long),
    )
