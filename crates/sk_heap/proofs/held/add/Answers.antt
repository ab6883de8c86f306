use Rattle.std.proofs.Common.{rules, arith}
use Rattle.std.specs.BinaryHeap.{heap_items}
use Rattle.sk_heap.proofs.Both.{held_added}
use Rattle.sk_heap.proofs.held.add.Goals as goal

pub returns-clause-held : goal.returns-clause-held
returns-clause-held c =
    held_added c.args.k (heap_items c.args.heap.now) c.args.table.now c.requires.held c.args.hash c.args.at c.requires.item c.requires.empty (heap_items c.push.new.self)
    (search rules) (search rules) (omega arith) (omega (arith, c.requires.half))
