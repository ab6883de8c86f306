use Rattle.std.proofs.Common.{subst}
use Rattle.sk_gate.specs.Slots.{telling}
use Rattle.sk_hub.specs.Hearts.{IsWholeHeart}
use Rattle.sk_hub.proofs.Handles.{heart_whole}
use Rattle.sk_hub.proofs.heart.Heart.admitted.Goals as goal

pub returns-clause-whole : goal.returns-clause-whole
returns-clause-whole g c = let k = g.C.Composable in let f = c.self.inside in
    subst IsWholeHeart c.self.view_is (heart_whole (telling k.tells k.told_name k.told_of) f.seat f.vacant.items f.told.items f.updaters f.admitted f.eager c.self.invariant)
