use Rattle.sk_heap.proofs.Gaps.{run_ends}
use Rattle.sk_heap.proofs.table.shift_far.Goals as goal

pub returns-then-last-eq0-clause-probed : goal.returns-then-last-eq0-clause-probed
returns-then-last-eq0-clause-probed c = run_ends c.args.table.now c.args.start c.run_after-last.result c.requires.gap c.run_after-last.ensures c.if-last-eq0.true
