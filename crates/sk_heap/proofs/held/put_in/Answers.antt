use Rattle.std.proofs.Common.{◌≡◌, ℕ, ◌<◌, List, length, Contains, inl, ◌∷◌, refl, arith}
use Rattle.sk_model.proofs.Rising.{Contains-from_Has}
use Rattle.std.specs.BinaryHeap.{heap_items}
use Rattle.std.proofs.lemmas.List.Sorted.{IsPermutation-sym}
use Rattle.sk_heap.proofs.Kept.{kept_there, kept_added, kept_exchanged, kept_changed, theta_full}
use Rattle.sk_heap.proofs.Distinct.{Has-permutation}
use Rattle.sk_heap.proofs.Both.{has_room, heap_has, heap_lacks}
use Rattle.sk_heap.proofs.held.put_in.Goals as goal

pub find-requires-clause-room : goal.find-requires-clause-room
find-requires-clause-room c = has_room c.args.k (heap_items c.args.heap.now) c.args.table.now c.requires.held

pub returns-in_default-clause-kept : goal.returns-in_default-clause-kept
returns-in_default-clause-kept c =
    let found = c.in_default.ensures.found in
    kept_there c.args.k c.args.hash (heap_items c.args.heap.now) c.requires.held.distinct c.requires.held.within
    (heap_has c.args.k (heap_items c.args.heap.now) c.args.table.now c.requires.held c.args.hash c.in_default.field-0 found.0 found.1)

pub returns-then-len-k-clause-kept : goal.returns-then-len-k-clause-kept
returns-then-len-k-clause-kept c =
    kept_added c.args.k c.args.hash (heap_items c.args.heap.now) (heap_items c.add.new.heap) c.requires.held.distinct c.add.ensures.held.distinct c.add.ensures.held.within c.add.ensures.members

pub returns-then-len-k-clause-changed : goal.returns-then-len-k-clause-changed
returns-then-len-k-clause-changed c =
    let lacks = heap_lacks c.args.k (heap_items c.args.heap.now) c.args.table.now c.requires.held c.args.hash c.in-Err.at c.in-Err.ensures.empty in
    let there = Has-permutation (c.args.hash ∷ heap_items c.args.heap.now) (heap_items c.add.new.heap) c.args.hash c.add.ensures.members (inl refl) in
    (λ _ same. kept_changed c.args.hash (heap_items c.args.heap.now) (heap_items c.add.new.heap) lacks there same, λ _. refl)

pub returns-else-len-k-clause-kept : goal.returns-else-len-k-clause-kept
returns-else-len-k-clause-kept c =
    let heap : List ℕ = heap_items c.args.heap.now in
    let e = c.exchange.ensures.members in
    let full : length heap ≡ c.args.k = omega arith in
    let first : Contains heap c.exchange.result = Contains-from_Has heap c.exchange.result (Has-permutation (c.exchange.result ∷ e.rest) heap c.exchange.result (IsPermutation-sym heap (c.exchange.result ∷ e.rest) e.out) (inl refl)) in
    let theta = theta_full c.args.k c.exchange.result heap c.requires.held.distinct (omega arith) full first e.most in
    let below : c.args.hash < c.exchange.result = rw theta at c.requires.below in
    kept_exchanged c.args.k c.args.hash c.exchange.result heap (heap_items c.exchange.new.heap) c.requires.held.distinct c.exchange.ensures.held.distinct full e below

pub returns-else-len-k-clause-changed : goal.returns-else-len-k-clause-changed
returns-else-len-k-clause-changed c =
    let lacks = heap_lacks c.args.k (heap_items c.args.heap.now) c.args.table.now c.requires.held c.args.hash c.in-Err.at c.in-Err.ensures.empty in
    let e = c.exchange.ensures.members in
    let there = Has-permutation (c.args.hash ∷ e.rest) (heap_items c.exchange.new.heap) c.args.hash e.put (inl refl) in
    (λ _ same. kept_changed c.args.hash (heap_items c.args.heap.now) (heap_items c.exchange.new.heap) lacks there same, λ _. refl)
