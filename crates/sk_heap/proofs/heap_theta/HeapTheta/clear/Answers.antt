use Rattle.std.proofs.Common.{rules, replicate, ◌≡◌, ℕ, ◌≤◌, List, [], length, ap, ◌∙◌, sym, arith}
use Rattle.std.proofs.lemmas.List.{length-replicate}
use Rattle.std.specs.BinaryHeap.{heap_items, heap_capacity}
use Rattle.sk_model.specs.Sketch.{rising}
use Rattle.sk_model.proofs.Sketch.{k_smallest-nil}
use Rattle.sk_heap.specs.Held.{IsHeld}
use Rattle.sk_heap.proofs.Shown.{held_empty, no_members, rising_nil}
use Rattle.sk_heap.proofs.Kept.{theta_few}
use Rattle.sk_heap.proofs.heap_theta.HeapTheta.clear.Goals as goal

pub returns-then-is_empty-clause-stands : goal.returns-then-is_empty-clause-stands
returns-then-is_empty-clause-stands c =
    let none : heap_items c.self.inside.heap ≡ [] = no_members (heap_items c.self.inside.heap) (grind arith) in
    rw (← c.self.view_is) (ap rising none ∙ rising_nil ∙ sym (k_smallest-nil c.self.inside.k))

pub invariant_of-self : goal.invariant_of-self
invariant_of-self c =
    let k : ℕ = c.self.inside.k in
    let heap : List ℕ = heap_items c.clear.new.self in
    let table : List ℕ = c.resize.new.self.items in
    let old = c.self.invariant.0 in
    let first = c.first_places.ensures in
    let none : heap ≡ [] = c.clear.ensures.items in
    let zeros : table ≡ replicate c.first_places.result 0 = search rules in
    let long : length table ≡ c.first_places.result = ap length zeros ∙ length-replicate {A = ℕ} c.first_places.result 0 in
    let room : k ≤ heap_capacity c.clear.new.self = omega (arith, c.clear.ensures.capacity, c.self.invariant.1) in
    let short : c.first_places.result ≤ c.self.inside.places = first.within in
    let held : IsHeld k heap table = held_empty k c.first_places.result heap table old.least old.most first.power first.wide (omega (arith, short, old.most, c.self.invariant.3)) none zeros c.clear.ensures.heap_order in (
      held,
      room,
      sym (theta_few k heap held.distinct (omega (arith, ap length none, old.least))),
      c.self.invariant.3,
      omega (arith, short, long),
      omega (arith, c.resize.ensures.capacity, c.clear-2.ensures.capacity, c.self.invariant.5),
    )

pub returns-clause-stands : goal.returns-clause-stands
returns-clause-stands c = ap rising c.clear.ensures.items ∙ rising_nil ∙ sym (k_smallest-nil c.self.inside.k)
