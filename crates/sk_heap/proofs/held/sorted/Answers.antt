use Rattle.std.proofs.Common.{rules, ◌≡◌, ℕ, List, ◌∙◌, ap, subst}
use Rattle.std.specs.BinaryHeap.{heap_items}
use Rattle.std.specs.List.Sorted.{IsPermutation}
use Rattle.std.proofs.lemmas.List.Elements.{same_from_all_zip}
use Rattle.sk_heap.proofs.Shown.{sorted_is_rising}
use Rattle.sk_heap.proofs.held.sorted.Goals as goal

pub returns : goal.returns
returns c =
    let heap : List ℕ = heap_items c.args.heap.now in
    let copy : heap_items c.in_ok-clone.field-0 ≡ heap = same_from_all_zip _ heap (heap_items c.in_ok-clone.field-0) c.in_ok-clone.ensures.cases.0 (λ x y is. search rules) in
    let same : c.into_vec-hashes.result.items ≡ heap = ap (λ v. v.items) c.into_vec-hashes.ensures.value ∙ copy in
    let moved = subst (λ (l : List ℕ). IsPermutation l c.sort_unstable.new.self.items) same c.sort_unstable.ensures.permutation in
    sorted_is_rising heap c.sort_unstable.new.self.items c.requires moved c.sort_unstable.ensures.sorted
