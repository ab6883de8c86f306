use Rattle.std.proofs.Common.{◌≡◌, ℕ, List, length, ap, ◌∙◌, arith}
use Rattle.std.specs.BinaryHeap.{heap_items}
use Rattle.sk_model.specs.Sketch.{rising}
use Rattle.sk_heap.proofs.Kept.{length_rising}
use Rattle.sk_heap.proofs.Shown.{held_whole}
use Rattle.sk_heap.proofs.heap_theta.HeapTheta.count.Goals as goal

pub returns-clause-kept : goal.returns-clause-kept
returns-clause-kept c = rw (← c.self.view_is) (omega (arith, length_rising (heap_items c.self.inside.heap) (c.self.invariant.0.distinct)))

pub returns-clause-value : goal.returns-clause-value
returns-clause-value c =
    let long : c.len.result ≡ length (rising (heap_items c.self.inside.heap)) = omega (arith, length_rising (heap_items c.self.inside.heap) (c.self.invariant.0.distinct)) in
    rw (← c.self.view_is) (λ hashes stands. long ∙ ap (λ (l : List ℕ). length l) stands)

pub returns-clause-whole : goal.returns-clause-whole
returns-clause-whole c = rw (← c.self.view_is) (held_whole c.self.inside.k (heap_items c.self.inside.heap) c.self.inside.table.items c.self.invariant.0)
