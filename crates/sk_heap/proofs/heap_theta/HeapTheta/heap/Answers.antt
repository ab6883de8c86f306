use Rattle.std.specs.BinaryHeap.{heap_items}
use Rattle.sk_model.specs.Sketch.{rising}
use Rattle.sk_heap.proofs.Counts.{same_permutation}
use Rattle.sk_heap.proofs.Distinct.{rising_moves}
use Rattle.sk_heap.proofs.Shown.{max_heap}
use Rattle.sk_heap.proofs.heap_theta.HeapTheta.heap.Goals as goal

pub returns-clause-members : goal.returns-clause-members
returns-clause-members c =
    let heap = heap_items c.self.inside.heap in
    rw (← c.self.view_is, c.as_slice.ensures.value) (same_permutation (rising heap) heap (rising_moves heap (c.self.invariant.0.distinct)))

pub returns-clause-order : goal.returns-clause-order
returns-clause-order c = rw (c.as_slice.ensures.value) (max_heap (heap_items c.self.inside.heap) (c.self.invariant.0.order))
