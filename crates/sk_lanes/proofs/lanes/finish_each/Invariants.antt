use Rattle.sk_lanes.proofs.LaneLaws.{FinishesTo}
use Rattle.sk_lanes.proofs.lanes.finish_each.Given as goal

abbrev pub invariant-lane : goal.invariant-lane
invariant-lane g l = let k = g.T.TakesStretches in FinishesTo (k.took l.kind) k.keeps_at_most l.fn.lanes.items l.lanes.items l.fn.outlets.items l.outlets.items l.i
