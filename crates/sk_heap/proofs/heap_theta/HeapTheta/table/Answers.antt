use Rattle.std.proofs.Common.{◌∙◌, arith}
use Rattle.std.specs.BinaryHeap.{heap_items}
use Rattle.sk_model.specs.Sketch.{rising}
use Rattle.sk_heap.proofs.Counts.{same_permutation}
use Rattle.sk_heap.proofs.Distinct.{rising_moves}
use Rattle.sk_heap.proofs.Kept.{length_rising}
use Rattle.sk_heap.proofs.heap_theta.HeapTheta.table.Goals as goal

pub returns-clause-half : goal.returns-clause-half
returns-clause-half c =
    let heap = heap_items c.self.inside.heap in
    rw (← c.self.view_is, c.as_slice.ensures.value) (omega (arith, length_rising heap (c.self.invariant.0.distinct), c.self.invariant.0.half))

pub returns-clause-members : goal.returns-clause-members
returns-clause-members c =
    let heap = heap_items c.self.inside.heap in
    rw (← c.self.view_is, c.as_slice.ensures.value) (λ h. c.self.invariant.0.entries h ∙ same_permutation (rising heap) heap (rising_moves heap (c.self.invariant.0.distinct)) h)
