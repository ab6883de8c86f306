use Rattle.sk_gate.specs.Slots.{telling}
use Rattle.sk_hub.proofs.Handles.{heart_stays}
use Rattle.sk_hub.proofs.heart.Heart.sweep.Goals as goal

pub invariant_of-self : goal.invariant_of-self
invariant_of-self g c = let k = g.C.Composable in let f = c.self.inside in heart_stays (telling k.tells k.told_name k.told_of) f.seat _ f.vacant.items f.told.items f.updaters f.admitted c.propagate.ensures.seat c.propagate.ensures.knows c.self.invariant
