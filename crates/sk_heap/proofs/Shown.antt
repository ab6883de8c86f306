-- What a sketch shows of its heap and its table.
use Rattle.std.proofs.Common.{◌≡◌, ℕ, zero, suc, ◌+◌, ◌-◌, ◌/◌, ◌%◌, ◌≤◌, nat_eq, List, [], ◌∷◌, length, get_or, replicate, refl, sym, subst, arith}
use Rattle.std.proofs.lemmas.List.{length-replicate}
use Rattle.std.specs.BinaryHeap.{IsHeap}
use Rattle.std.specs.Int.{IsPowerOfTwo}
use Rattle.std.specs.List.{IsDistinct}
use Rattle.std.specs.List.Sorted.{IsPermutation, IsSorted}
use Rattle.std.specs.Ordering.{nat_cmp}
use Rattle.std.proofs.lemmas.List.Elements.{All-nil}
use Rattle.std.proofs.lemmas.List.Sorted.{All-permutation, Contains-permutation, IsPermutation-sym, IsNonDecreasingBy-from_sort}
use Rattle.std.proofs.lemmas.Map.Keys.{IsStrictlyIncreasing-from_distinct, ge_from_not_lt}
use Rattle.sk_model.specs.Sketch.{rising}
use Rattle.sk_model.proofs.Sketch.{theta_positive, theta_within, rising_is}
use Rattle.sk_theta.specs.Kept.{Sketch, IsWhole, theta_kept}
use Rattle.sk_theta.proofs.Sketches.{stands_for_kept}
use Rattle.sk_heap.specs.Heap.{times, IsMaxHeap}
use Rattle.sk_heap.specs.Held.{IsHeld}
use Rattle.sk_heap.specs.Table.{home, most_places}
use Rattle.sk_heap.proofs.Counts.{once-same, once-other, times-cons}
use Rattle.sk_heap.proofs.Distinct.{rising_moves, distinct_moved}
use Rattle.sk_heap.proofs.Kept.{rises, length_rising}
use Rattle.sk_model.specs.Width.{item_end, IsItem}
use Rattle.sk_model.specs.Limits.{most_k}

abbrev pub sketch_of : ℕ → List ℕ → Sketch
sketch_of k heap = record { k = k; kept = rising heap }

pub held_whole : (k : ℕ) (heap table : List ℕ) → IsHeld k heap table → IsWhole (sketch_of k heap)
held_whole k heap table held =
    record {
      least = held.least;
      most = held.most;
      rises = rises heap;
      within = omega (arith, length_rising heap (held.distinct), held.within);
      items = All-permutation IsItem heap (rising heap) (IsPermutation-sym (rising heap) heap (rising_moves heap (held.distinct))) (held.items);
    }

pub theta_lower : (s : Sketch) → IsWhole s → 1 ≤ theta_kept s.k s.kept
theta_lower s whole = subst (λ (kept : List ℕ). 1 ≤ theta_kept s.k kept) (sym (stands_for_kept s whole)) (theta_positive s.k s.kept (whole.least))

pub theta_upper : (s : Sketch) → IsWhole s → theta_kept s.k s.kept ≤ item_end
theta_upper s whole = subst (λ (kept : List ℕ). theta_kept s.k kept ≤ item_end) (sym (stands_for_kept s whole)) (theta_within s.k s.kept (whole.items))

pub max_heap : (heap : List ℕ) → IsHeap nat_cmp heap → IsMaxHeap heap
unfolding IsHeap
max_heap heap order j one inside =
    ge_from_not_lt (get_or heap ((j - 1) / 2) 0) (get_or heap j 0) (order ((j - 1) / 2) j 0 (omega arith) (omega arith) (omega arith) inside)

-- the heap's hashes, sorted
pub sorted_is_rising : (heap sorted : List ℕ) → IsDistinct nat_eq heap → IsPermutation heap sorted → IsSorted nat_cmp sorted → sorted ≡ rising heap
sorted_is_rising heap sorted distinct moved up =
    sym (rising_is sorted heap (IsStrictlyIncreasing-from_distinct sorted (IsNonDecreasingBy-from_sort (λ x. x) sorted up) (distinct_moved heap sorted moved distinct))
    (λ x c. Contains-permutation sorted heap x (IsPermutation-sym heap sorted moved) c) (λ x c. Contains-permutation heap sorted x moved c))

-- ---- the sketch of the empty list

pub zeros_are : (n i : ℕ) → let zeros : List ℕ = replicate n 0 in get_or zeros i 0 ≡ 0
zeros_are zero i = refl
zeros_are (suc n) zero = refl
zeros_are (suc n) (suc i) = zeros_are n i

pub zeros_alone : (n h : ℕ) → times (h + 1) (replicate n 0) ≡ 0
zeros_alone zero h = refl
zeros_alone (suc n) h = omega (arith, times-cons (h + 1) 0 (replicate n 0), once-other (h + 1) 0 (λ e. absurd (omega arith)), zeros_alone n h)

-- a list of no length is empty
pub no_members : (xs : List ℕ) → length xs ≡ 0 → xs ≡ []
no_members [] none = refl
no_members (x ∷ xs) none = absurd (omega arith)

pub rising_nil : rising [] ≡ []
unfolding rising
rising_nil = refl

pub zeros_times : (n : ℕ) → times 0 (replicate n 0) ≡ n
zeros_times zero = refl
zeros_times (suc n) = omega (arith, times-cons 0 0 (replicate n 0), once-same 0, zeros_times n)

distinct_nil : IsDistinct nat_eq []
unfolding IsDistinct
distinct_nil = tt

abbrev zeros_of : ℕ → List ℕ
zeros_of n = replicate n 0

pub held_empty : (k n : ℕ) (heap table : List ℕ) → 2 ≤ k → k ≤ most_k → IsPowerOfTwo n → 4 ≤ n → n ≤ most_places → heap ≡ [] → table ≡ replicate n 0 → IsHeap nat_cmp heap → IsHeld k heap table
held_empty k n heap table least most power wide short none zeros order =
    subst (λ (heap : List ℕ). IsHeld k heap table) (sym none)
    (subst (λ (table : List ℕ). IsHeld k [] table) (sym zeros)
    (record {
      least = least;
      most = most;
      within = omega arith;
      items = All-nil IsItem;
      distinct = distinct_nil;
      order = subst (λ (heap : List ℕ). IsHeap nat_cmp heap) none order;
      power = subst (λ (len : ℕ). IsPowerOfTwo len) (sym (length-replicate {A = ℕ} n 0)) power;
      wide = omega (arith, wide, length-replicate {A = ℕ} n 0);
      half = omega arith;
      short = omega (arith, short, length-replicate {A = ℕ} n 0);
      probed = λ h m e under found less. absurd (omega (arith, found, zeros_are n ((home (length (zeros_of n)) h + m) % length (zeros_of n))));
      entries = λ h. zeros_alone n h;
      vacant = omega (arith, zeros_times n, length-replicate {A = ℕ} n 0);
    }))
