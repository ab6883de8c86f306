use Rattle.std.proofs.Common.{◌≡◌, ℕ, ◌+◌, subst}
use Rattle.sk_gate.specs.Slots.{telling}
use Rattle.sk_hub.specs.Rounds.{Serves}
use Rattle.sk_hub.proofs.Steps.{ServesItems, serves_nothing, serves_batch}
use Rattle.sk_hub.proofs.Handles.{heart_stays}
use Rattle.sk_hub.proofs.heart.Heart.serve.Goals as goal

pub invariant_of-self : goal.invariant_of-self
invariant_of-self g c = let k = g.C.Composable in let f = c.self.inside in heart_stays (telling k.tells k.told_name k.told_of) f.seat _ f.vacant.items f.told.items f.updaters f.admitted c.propagate.ensures.seat c.propagate.ensures.knows c.self.invariant

pub invariant_of-self-in-Err-OutOfMemory : goal.invariant_of-self-in-Err-OutOfMemory
invariant_of-self-in-Err-OutOfMemory g c = let k = g.C.Composable in let f = c.self.inside in heart_stays (telling k.tells k.told_name k.told_of) f.seat _ f.vacant.items f.told.items f.updaters f.admitted c.propagate.ensures.seat c.propagate.ensures.knows c.self.invariant

pub invariant_of-self-then-done-eq0 : goal.invariant_of-self-then-done-eq0
invariant_of-self-then-done-eq0 g c = let k = g.C.Composable in let f = c.self.inside in heart_stays (telling k.tells k.told_name k.told_of) f.seat _ f.vacant.items f.told.items f.updaters f.admitted c.propagate.ensures.seat c.propagate.ensures.knows c.self.invariant

pub invariant_of-self-2 : goal.invariant_of-self-2
invariant_of-self-2 g c = let k = g.C.Composable in let f = c.self.inside in heart_stays (telling k.tells k.told_name k.told_of) f.seat _ f.vacant.items f.told.items f.updaters f.admitted c.propagate.ensures.seat c.propagate.ensures.knows c.self.invariant

pub returns-then-done-eq0-clause-nothing : goal.returns-then-done-eq0-clause-nothing
returns-then-done-eq0-clause-nothing g c _ =
    subst (λ h. (held : ℕ) × Serves h.view c.args.i 1 held 0 c.propagate.new.seat.view) c.self.view_is
    (serves_nothing c.self.inside.seat.view c.propagate.new.seat.view c.args.i c.in-Ok.done.held c.in-Ok.done.found c.if-done-eq0.true c.in-Ok.ensures.serves)

pub returns-clause-served : goal.returns-clause-served
returns-clause-served g c count is =
    let same : c.in-Ok.done.held + c.in-Ok.done.found ≡ count = cc in
    subst (λ z. ServesItems c.args.self.now.view c.args.i z c.propagate.new.seat.view) same
    (subst (λ h. ServesItems h.view c.args.i (c.in-Ok.done.held + c.in-Ok.done.found) c.propagate.new.seat.view) c.self.view_is
    (serves_batch c.self.inside.seat.view c.propagate.new.seat.view c.args.i c.in-Ok.done.held c.in-Ok.done.found c.if-done-eq0.false c.in-Ok.ensures.serves))
