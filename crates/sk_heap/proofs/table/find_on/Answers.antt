use Rattle.std.proofs.Common.{arith}
use Rattle.sk_heap.proofs.Walks.{first_empty}
use Rattle.sk_heap.proofs.table.find_on.Goals as goal

pub returns-then-empty-lt-WIDE-clause-empty : goal.returns-then-empty-lt-WIDE-clause-empty
returns-then-empty-lt-WIDE-clause-empty c =
    let same = c.steps_near-same in
    let empty = c.steps_near-empty in
    first_empty c.args.table.now 8 c.args.hash c.args.start same.result empty.result c.requires.home.1 (omega arith) c.if-empty-lt-WIDE.true (omega arith)
    empty.ensures.passed same.ensures.passed (empty.ensures.stops c.if-empty-lt-WIDE.true)
