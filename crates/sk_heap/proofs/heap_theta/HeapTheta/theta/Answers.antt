use Rattle.std.specs.BinaryHeap.{heap_items}
use Rattle.sk_heap.proofs.Shown.{sketch_of, held_whole, theta_lower, theta_upper}
use Rattle.sk_heap.proofs.heap_theta.HeapTheta.theta.Goals as goal

pub returns-clause-lower : goal.returns-clause-lower
returns-clause-lower c =
    let heap = heap_items c.self.inside.heap in
    rw (c.self.invariant.2) (theta_lower (sketch_of c.self.inside.k heap) (held_whole c.self.inside.k heap c.self.inside.table.items c.self.invariant.0))

pub returns-clause-upper : goal.returns-clause-upper
returns-clause-upper c =
    let heap = heap_items c.self.inside.heap in
    rw (c.self.invariant.2) (theta_upper (sketch_of c.self.inside.k heap) (held_whole c.self.inside.k heap c.self.inside.table.items c.self.invariant.0))
