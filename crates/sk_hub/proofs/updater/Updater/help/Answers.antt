use Rattle.std.proofs.Common.{◌≡◌, true, ◌∙◌, sym, subst}
use Rattle.sk_gate.specs.Slots.{telling}
use Rattle.sk_gate.specs.Views.{is_open}
use Rattle.sk_hub.specs.Rounds.{TriesTheTurn}
use Rattle.sk_hub.proofs.Handles.{updater_stays}
use Rattle.sk_hub.proofs.Opens.{opens_served}
use Rattle.sk_hub.proofs.updater.Updater.help.Goals as goal
use Rattle.sk_hub.proofs.updater.Updater.help.Goals.{in-Ok, in-Err-Elsewhere, in-Err-OutOfMemory}

pub invariant_of-self : goal.invariant_of-self
invariant_of-self g c = let k = g.C.Composable in let f = c.self.inside in updater_stays k.hint_of (telling k.tells k.told_name k.told_of) f.seat _ f.number f.updaters f.size f.fill f.told f.hint f.taken f.last c.propagate.ensures.seat c.propagate.ensures.knows c.self.invariant

pub returns-clause-turn : goal.returns-clause-turn
returns-clause-turn g c = subst (λ u. TriesTheTurn u.view c.propagate.new.seat.view) c.self.view_is c.propagate.ensures.turn

pub returns-clause-opens : goal.returns-clause-opens
returns-clause-opens g c count is = let f = c.self.inside in elim c.match-propagate.branch [
  | in-Ok w ↦ subst (λ u. is_open u.number c.propagate.new.seat.view.steps ≡ true) c.self.view_is (opens_served f.seat.view c.propagate.new.seat.view f.number f.updaters w.in-Ok.field-0.held w.in-Ok.field-0.found c.self.invariant.within w.in-Ok.ensures.serves)
  | in-Err-Elsewhere w ↦ let no = sym w.result-is ∙ is in absurd (cc)
  | in-Err-OutOfMemory w ↦ let no = sym w.result-is ∙ is in absurd (cc)
]
