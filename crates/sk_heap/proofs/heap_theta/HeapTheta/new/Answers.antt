use Rattle.std.proofs.Common.{rules, replicate, ◌≡◌, ℕ, ◌≤◌, List, [], length, ap, ◌∙◌, sym, arith}
use Rattle.std.proofs.lemmas.List.{length-replicate}
use Rattle.std.specs.BinaryHeap.{heap_items}
use Rattle.sk_model.specs.Sketch.{rising}
use Rattle.sk_model.proofs.Sketch.{k_smallest-nil}
use Rattle.sk_heap.specs.Held.{IsHeld}
use Rattle.sk_heap.proofs.Shown.{held_empty, rising_nil}
use Rattle.sk_heap.proofs.Kept.{theta_few}
use Rattle.sk_heap.proofs.heap_theta.HeapTheta.new.Goals as goal

pub invariant_of-result : goal.invariant_of-result
invariant_of-result c =
    let k : ℕ = c.args.k in
    let heap : List ℕ = heap_items c.in_ok-heap.heap in
    let table : List ℕ = c.resize.new.self.items in
    let none : heap ≡ [] = c.in_ok-heap.ensures.items in
    let power = c.next_power_of_two-places.ensures in
    let first = c.first_places.ensures in
    let zeros : table ≡ replicate c.first_places.result 0 = search rules in
    let long : length table ≡ c.first_places.result = ap length zeros ∙ length-replicate {A = ℕ} c.first_places.result 0 in
    let short : c.first_places.result ≤ c.next_power_of_two-places.result = first.within in
    let held : IsHeld k heap table =
    held_empty k c.first_places.result heap table c.requires.least c.requires.most first.power first.wide (omega (arith, short, power.upper_bound, c.requires.most)) none zeros c.in_ok-heap.ensures.heap_order in (
      held,
      c.in_ok-heap.ensures.capacity,
      sym (theta_few k heap held.distinct (omega (arith, ap length none, c.requires.least))),
      (power.power, power.lower_bound, power.upper_bound),
      omega (arith, short, long),
      omega (arith, c.resize.ensures.capacity, c.in_ok-table.ensures.exact),
    )

pub returns-clause-stands : goal.returns-clause-stands
returns-clause-stands c = ap rising c.in_ok-heap.ensures.items ∙ rising_nil ∙ sym (k_smallest-nil c.args.k)
