-- The heap and the table hold the same hashes, and continue to.
use Rattle.std.proofs.Common.{◌≡◌, ℕ, ◌+◌, ◌*◌, ◌<◌, ◌≤◌, nat_eq, List, ◌∷◌, length, set, get_or, Contains, inl, inr, refl, sym, ◌∙◌, subst, arith, length-set}
use Rattle.std.specs.BinaryHeap.{IsHeap}
use Rattle.std.specs.List.Sorted.{IsPermutation}
use Rattle.std.specs.Ordering.{nat_cmp}
use Rattle.std.proofs.lemmas.List.{get_or_default}
use Rattle.std.proofs.lemmas.List.Elements.{All-contains, All-cons, All-tail}
use Rattle.std.proofs.lemmas.List.Sorted.{length_permutation, All-permutation, IsPermutation-sym}
use Rattle.std.proofs.lemmas.Map.Keys.{IsDistinct-tail}
use Rattle.std.specs.Int.{IsPowerOfTwo}
use Rattle.sk_model.proofs.Rising.{Has, Has-from_Contains, Contains-from_Has}
use Rattle.sk_heap.specs.Heap.{times, HasSame}
use Rattle.sk_heap.specs.Table.{IsProbed, IsProbedOver, IsFirstEmpty}
use Rattle.sk_heap.specs.Held.{IsHeld, IsExchanged}
use Rattle.sk_heap.proofs.Counts.{once, once-suc, once-other, once-same, times-cons, same_set, same_permutation, times_from_at, at_from_times}
use Rattle.sk_heap.proofs.Distinct.{Has-permutation, distinct_more, distinct_moved}
use Rattle.sk_heap.proofs.Probes.{is_absent, one_more_probed}
use Rattle.sk_model.specs.Width.{IsItem, AreItems}

pub contains_from_times : (xs : List ℕ) (x : ℕ) → 1 ≤ times x xs → Contains xs x
contains_from_times xs x some = let at = at_from_times xs x some in (at.0, at.1, get_or_default xs at.0 x 0 at.1 ∙ at.2)

pub times_from_contains : (xs : List ℕ) (x : ℕ) → Contains xs x → 1 ≤ times x xs
times_from_contains xs x there = times_from_at xs x there.0 there.1 (get_or_default xs there.0 0 x there.1 ∙ there.2)

module _ (k : ℕ) (heap table : List ℕ) (held : IsHeld k heap table) where
  -- there is an empty place
  pub has_room : Contains table 0
  has_room =
      let half : 2 * length heap ≤ length table = held.half in
      let wide : 4 ≤ length table = held.wide in
      contains_from_times table 0 (omega (arith, held.vacant))

  -- a hash that the table has is in the heap
  pub heap_has : (h at : ℕ) → at < length table → get_or table at 0 ≡ h + 1 → Has heap h
  heap_has h at inside is = let c = contains_from_times heap h (omega (arith, held.entries h, times_from_at table (h + 1) at inside is)) in Has-from_Contains heap h c

  -- and one that it has not is not
  pub heap_lacks : (h at : ℕ) → IsFirstEmpty h table at → Has heap h → ⊥
  heap_lacks h at first there =
      is_absent table h at (held.probed) first (contains_from_times table (h + 1) (omega (arith, held.entries h, times_from_contains heap h (Contains-from_Has heap h there))))

  module _ (hash at : ℕ) (small : IsItem hash) (first : IsFirstEmpty hash table at) where
    abbrev pub marked : List ℕ
    marked = set table at (hash + 1)

    inside : at < length table
    inside = let steps : first.steps < length table = first.within in omega (arith, first.is)

    long : length marked ≡ length table
    long = length-set table at (hash + 1)

    marked_has : (h : ℕ) → times (h + 1) marked ≡ once h hash + times h heap
    marked_has h =
        omega (
          arith,
          same_set table at (hash + 1) 0 inside (first.empty) (h + 1),
          times-cons (h + 1) 0 marked,
          times-cons (h + 1) (hash + 1) table,
          once-other (h + 1) 0 (λ e. absurd (omega arith)),
          once-suc h hash,
          held.entries h,
        )

    marked_zero : times 0 marked + 1 ≡ times 0 table
    marked_zero =
        omega (
          arith,
          same_set table at (hash + 1) 0 inside (first.empty) 0,
          times-cons 0 0 marked,
          times-cons 0 (hash + 1) table,
          once-same 0,
          once-other 0 (hash + 1) (λ e. absurd (omega arith)),
        )

    pub marked_probed : IsProbed marked
    marked_probed =
        subst (λ (len : ℕ). IsProbedOver len marked) (sym long)
        (one_more_probed (length table) table hash at (first.steps) refl (held.probed) (first.within) (first.is) (first.passed))

    new_items : (new : List ℕ) → AreItems new → (z : ℕ) → Has new z → IsItem z
    new_items new items z g = All-contains IsItem new z items (Contains-from_Has new z g)

    pub held_added : (new : List ℕ) → IsPermutation (hash ∷ heap) new → IsHeap nat_cmp new → length heap < k → 2 * (length heap + 1) ≤ length table → IsHeld k new marked
    held_added new moved order few half =
        let longer : length new ≡ length (hash ∷ heap) = length_permutation (hash ∷ heap) new moved in
        record {
          least = held.least;
          most = held.most;
          within = omega arith;
          items = All-permutation IsItem (hash ∷ heap) new moved (All-cons IsItem hash heap small (held.items));
          distinct = distinct_moved (hash ∷ heap) new moved (distinct_more hash heap (heap_lacks hash at first) (held.distinct));
          order = order;
          power = subst (λ (len : ℕ). IsPowerOfTwo len) (sym long) (held.power);
          wide = omega (arith, held.wide, long);
          half = omega (arith, half, long);
          short = omega (arith, held.short, long);
          probed = marked_probed;
          entries = λ h. marked_has h ∙ sym (times-cons h hash heap) ∙ sym (same_permutation (hash ∷ heap) new moved h);
          vacant = omega (arith, held.vacant, marked_zero, long);
        }

    module _ (new : List ℕ) (greatest : ℕ) (e : IsExchanged hash heap new greatest) where
      out_first : Has heap greatest
      out_first = Has-permutation (greatest ∷ e.rest) heap greatest (IsPermutation-sym heap (greatest ∷ e.rest) (e.out)) (inl refl)

      pub greatest_small : IsItem greatest
      greatest_small = All-contains IsItem heap greatest (held.items) (Contains-from_Has heap greatest out_first)

      pub marked_holds : Contains marked (greatest + 1)
      marked_holds = contains_from_times marked (greatest + 1) (omega (arith, marked_has greatest, times_from_contains heap greatest (Contains-from_Has heap greatest out_first)))

      pub marked_room : length heap ≡ k → Contains marked 0
      marked_room full =
          let half : 2 * length heap ≤ length table = held.half in
          let wide : 4 ≤ length table = held.wide in
          contains_from_times marked 0 (omega (arith, held.vacant, marked_zero))

      pub held_exchanged : IsHeap nat_cmp new → length heap ≡ k → (left : List ℕ) → IsProbed left → HasSame ((greatest + 1) ∷ left) (0 ∷ marked) → length left ≡ length marked → IsHeld k new left
      held_exchanged order full left probed same as_long =
          let rest : List ℕ = e.rest in
          let distinct_out = distinct_moved heap (greatest ∷ rest) (e.out) (held.distinct) in
          let not_in_rest : Has rest hash → ⊥ = λ g. heap_lacks hash at first (Has-permutation (greatest ∷ rest) heap hash (IsPermutation-sym heap (greatest ∷ rest) (e.out)) (inr g)) in
          let one_less : length (greatest ∷ rest) ≡ length heap = length_permutation heap (greatest ∷ rest) (e.out) in
          let one_more : length new ≡ length (hash ∷ rest) = length_permutation (hash ∷ rest) new (e.put) in
          let items_out = All-permutation IsItem heap (greatest ∷ rest) (e.out) (held.items) in
          record {
            least = held.least;
            most = held.most;
            within = omega arith;
            items = All-permutation IsItem (hash ∷ rest) new (e.put) (All-cons IsItem hash rest small (All-tail IsItem greatest rest items_out));
            distinct = distinct_moved (hash ∷ rest) new (e.put) (distinct_more hash rest not_in_rest (IsDistinct-tail nat_eq greatest rest distinct_out));
            order = order;
            power = subst (λ (len : ℕ). IsPowerOfTwo len) (sym (as_long ∙ long)) (held.power);
            wide = omega (arith, held.wide, as_long, long);
            half = omega (arith, held.half, as_long, long);
            short = omega (arith, held.short, as_long, long);
            probed = probed;
            entries = λ h.
                omega (
                  arith,
                  same (h + 1),
                  times-cons (h + 1) (greatest + 1) left,
                  times-cons (h + 1) 0 marked,
                  once-other (h + 1) 0 (λ e. absurd (omega arith)),
                  once-suc h greatest,
                  marked_has h,
                  same_permutation heap (greatest ∷ rest) (e.out) h,
                  times-cons h greatest rest,
                  same_permutation (hash ∷ rest) new (e.put) h,
                  times-cons h hash rest,
                );
            vacant =
                omega (
                  arith,
                  held.vacant,
                  marked_zero,
                  long,
                  as_long,
                  same 0,
                  times-cons 0 (greatest + 1) left,
                  times-cons 0 0 marked,
                  once-same 0,
                  once-other 0 (greatest + 1) (λ e. absurd (omega arith)),
                );
          }
