use Rattle.sk_heap.proofs.Walks.{near_within, near_passed, near_stops}
use Rattle.sk_heap.proofs.walk.steps_next.Goals as goal

pub returns-clause-within : goal.returns-clause-within
returns-clause-within c = near_within 4 c.args.table.now c.args.at c.args.number c.count_before_4.result c.requires c.count_before_4.ensures

pub returns-clause-passed : goal.returns-clause-passed
returns-clause-passed c = near_passed 4 c.args.table.now c.args.at c.args.number c.count_before_4.result c.requires c.count_before_4.ensures

pub returns-clause-stops : goal.returns-clause-stops
returns-clause-stops c = near_stops 4 c.args.table.now c.args.at c.args.number c.count_before_4.result c.requires c.count_before_4.ensures
