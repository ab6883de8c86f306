use Rattle.sk_heap.proofs.Walks.{none_of_block}
use Rattle.sk_heap.proofs.walk.has_none.Goals as goal

pub returns : goal.returns
returns c = none_of_block c.args.table.now c.args.at c.args.number c.requires
