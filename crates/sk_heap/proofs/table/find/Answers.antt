use Rattle.std.proofs.Common.{arith}
use Rattle.sk_heap.proofs.Walks.{first_empty}
use Rattle.sk_heap.proofs.table.find.Goals as goal

pub returns-then-empty-lt-FEW-clause-empty : goal.returns-then-empty-lt-FEW-clause-empty
returns-then-empty-lt-FEW-clause-empty c =
    let same = c.steps_next-same in
    let empty = c.steps_next-empty in
    first_empty c.args.table.now 4 c.args.hash c.home-start.result same.result empty.result c.home-start.ensures.value (omega arith) c.if-empty-lt-FEW.true (omega arith)
    empty.ensures.passed same.ensures.passed (empty.ensures.stops c.if-empty-lt-FEW.true)
