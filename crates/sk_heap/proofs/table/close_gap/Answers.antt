use Rattle.std.proofs.Common.{arith}
use Rattle.sk_heap.proofs.Walks.{run_near}
use Rattle.sk_heap.proofs.table.close_gap.Goals as goal

pub shift_near-requires-clause-run : goal.shift_near-requires-clause-run
shift_near-requires-clause-run c =
    let near = c.steps_next-last in
    run_near c.args.table.now c.args.start near.result (omega arith) (omega arith) near.ensures.passed (near.ensures.stops (omega arith))
