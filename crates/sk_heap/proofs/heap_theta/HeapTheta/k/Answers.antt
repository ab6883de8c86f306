use Rattle.std.specs.BinaryHeap.{heap_items}
use Rattle.sk_heap.proofs.Shown.{held_whole}
use Rattle.sk_heap.proofs.heap_theta.HeapTheta.k.Goals as goal

pub returns-clause-whole : goal.returns-clause-whole
returns-clause-whole c = rw (← c.self.view_is) (held_whole c.self.inside.k (heap_items c.self.inside.heap) c.self.inside.table.items c.self.invariant.0)
