use Rattle.sk_heap.proofs.Walks.{near_within, near_passed, near_stops}
use Rattle.sk_heap.proofs.walk.steps_near.Goals as goal

pub returns-clause-within : goal.returns-clause-within
returns-clause-within c = near_within 8 c.args.table.now c.args.at c.args.number c.count_before.result c.requires c.count_before.ensures

pub returns-clause-passed : goal.returns-clause-passed
returns-clause-passed c = near_passed 8 c.args.table.now c.args.at c.args.number c.count_before.result c.requires c.count_before.ensures

pub returns-clause-stops : goal.returns-clause-stops
returns-clause-stops c = near_stops 8 c.args.table.now c.args.at c.args.number c.count_before.result c.requires c.count_before.ensures
