use Rattle.std.proofs.Common.{◌≡◌, ℕ, ◌≤◌, List, ◌++◌, length, reverse, ap, ◌∙◌, sym, subst, arith}
use Rattle.std.specs.BinaryHeap.{heap_items}
use Rattle.sk_model.specs.Sketch.{rising, k_smallest}
use Rattle.sk_theta.specs.Kept.{Sketch}
use Rattle.sk_heap.proofs.Kept.{length_rising, joined_back, joined_stands}
use Rattle.sk_heap.proofs.heap_theta.HeapTheta.join.Goals as goal

pub returns-then-len-self-clause-stands : goal.returns-then-len-self-clause-stands
returns-then-len-self-clause-stands c = λ hashes more stands stands_for_more.
    let heap : List ℕ = heap_items c.other.inside.heap in
    let held = c.other.invariant.0 in
    let same : c.other.inside.k ≡ c.merge.new.self.k = ap (λ (s : Sketch). s.k) c.other.view_is ∙ c.requires.k ∙ sym c.merge.ensures.numbers in
    let kept : rising heap ≡ k_smallest c.other.inside.k more = subst (λ (s : Sketch). s.kept ≡ k_smallest s.k more) (sym c.other.view_is) stands_for_more in
    let few : length (rising heap) ≤ c.other.inside.k = omega (arith, length_rising heap held.distinct, held.within) in
    (rw c.as_slice.ensures.value at (c.merge.ensures.stands hashes stands))
    ∙ subst (λ (k : ℕ). k_smallest k (hashes ++ heap) ≡ k_smallest k (hashes ++ more)) same (joined_stands c.other.inside.k heap hashes more few kept)

pub returns-else-len-self-clause-stands : goal.returns-else-len-self-clause-stands
returns-else-len-self-clause-stands c = λ hashes more stands stands_for_more.
    let heap : List ℕ = heap_items c.other.inside.heap in
    let held = c.other.invariant.0 in
    let same : c.other.inside.k ≡ c.merge_back.new.self.k = ap (λ (s : Sketch). s.k) c.other.view_is ∙ c.requires.k ∙ sym c.merge_back.ensures.numbers in
    let kept : rising heap ≡ k_smallest c.other.inside.k more = subst (λ (s : Sketch). s.kept ≡ k_smallest s.k more) (sym c.other.view_is) stands_for_more in
    let few : length (rising heap) ≤ c.other.inside.k = omega (arith, length_rising heap held.distinct, held.within) in
    (rw c.as_slice-else-len-self.ensures.value at (c.merge_back.ensures.stands hashes stands))
    ∙ subst (λ (k : ℕ). k_smallest k (hashes ++ reverse heap) ≡ k_smallest k (hashes ++ more)) same (joined_back c.other.inside.k heap hashes more few kept)
