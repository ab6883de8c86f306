use Rattle.sk_hub.proofs.Steps.{publishes_if}
use Rattle.sk_hub.proofs.round.publish_batch.Goals as goal

pub returns-clause-steps : goal.returns-clause-steps
returns-clause-steps g c = let k = g.C.Composable in let e = c.merge_batch.ensures in
    publishes_if k.hint_of k.packed_of c.args.seat.now.view _ c.args.i c.merge_batch.result e.count e.merged e.seen e.lower
