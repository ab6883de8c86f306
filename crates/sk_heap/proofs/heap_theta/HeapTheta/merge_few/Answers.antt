use Rattle.std.proofs.Common.{◌≡◌, ℕ, List, ◌++◌, not, ap, sym, subst, ◌∙◌}
use Rattle.std.specs.BinaryHeap.{heap_items}
use Rattle.std.specs.List.{filter}
use Rattle.std.proofs.lemmas.List.Elements.{All-filter}
use Rattle.sk_model.specs.Sketch.{rising, k_smallest}
use Rattle.sk_model.specs.Width.{IsItem, AreItems}
use Rattle.sk_theta.specs.Kept.{Sketch}
use Rattle.sk_heap.specs.Table.{is_at_home}
use Rattle.sk_heap.proofs.AtHome.{others_stand}
use Rattle.sk_heap.proofs.heap_theta.HeapTheta.merge_few.Goals as goal

pub update_each-requires : goal.update_each-requires
update_each-requires c = record {
  items = subst AreItems (sym c.leave_those_at_home-count.ensures.rest) (All-filter (λ h. not (is_at_home c.as_slice.result.now h)) IsItem c.args.batch.now c.requires.items);
}

pub returns-clause-stands : goal.returns-clause-stands
returns-clause-stands c =
    let i = c.self.inside in let heap : List ℕ = heap_items i.heap in let batch = c.args.batch.now in
    let shown : rising heap ≡ c.args.self.now.kept = ap (λ (s : Sketch). s.kept) c.self.view_is in
    let k_is : i.k ≡ c.update_each.new.self.k = ap (λ (s : Sketch). s.k) c.self.view_is ∙ sym c.update_each.ensures.numbers in
    λ hashes stands.
    c.update_each.ensures.stands hashes stands
    ∙ ap (λ (rest : List ℕ). k_smallest c.update_each.new.self.k (hashes ++ rest)) c.leave_those_at_home-count.ensures.rest
    ∙ ap (λ (t : List ℕ). k_smallest c.update_each.new.self.k (hashes ++ filter (λ h. not (is_at_home t h)) batch)) c.as_slice.ensures.value
    ∙ subst (λ k. k_smallest k (hashes ++ filter (λ h. not (is_at_home i.table.items h)) batch) ≡ k_smallest k (hashes ++ batch)) k_is
    (others_stand i.k heap i.table.items c.self.invariant.0 hashes batch (shown ∙ subst (λ k. c.args.self.now.kept ≡ k_smallest k hashes) (ap (λ (s : Sketch). s.k) (sym c.self.view_is)) stands))
