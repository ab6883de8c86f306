-- A list of updates, and the items that it has of each updater.
use Rattle.std.proofs.Common.{◌≡◌, ℕ, zero, suc, ◌+◌, ◌<◌, ◌≤◌, ◌==◌, false, cond, inl, inr, List, [], ◌∷◌, length, flat_map, sum_by, refl, sym, ap, ◌∙◌, arith, All}
use Rattle.std.specs.List.{range_with_len}
use Rattle.std.proofs.lemmas.Bool.{cases_eq, eq-eqb, ne_eqb}
use Rattle.std.proofs.lemmas.List.Elements.{All-head, All-tail}
use Rattle.std.proofs.lemmas.List.Sums.{sum_by-append, sum_by-cons}
use Rattle.sk_model.specs.Entries.{Entry, items_of_entries, entries_by}
use Rattle.sk_cms.specs.Estimate.{cell_of, least_of}
use Rattle.sk_cms.specs.Tallies.{IsTally}
use Rattle.sk_cms.proofs.Estimates.{is_item, is_in_cell, least-zero, least-suc}

-- ---- sums over numbers in a row

-- each number before this one adds nothing
sum_past : (k c from count : ℕ) → k < from → sum_by (λ i. cond (k == i) c 0) (range_with_len from count) ≡ 0
sum_past k c from zero past = refl
sum_past k c from (suc count) past =
    let test : (k == from) ≡ false = ne_eqb k from (omega arith) in
    let first : cond (k == from) c 0 ≡ 0 = rw test refl in
    omega (arith, sum_by-cons (λ i. cond (k == i) c 0) from (range_with_len (from + 1) count), first, sum_past k c (from + 1) count (omega arith))

-- one of the numbers adds something
sum_one : (k c from count : ℕ) → from ≤ k → k < from + count → sum_by (λ i. cond (k == i) c 0) (range_with_len from count) ≡ c
sum_one k c from zero low high = absurd (omega arith)
sum_one k c from (suc count) low high =
    let rest = range_with_len (from + 1) count in
    let parts = sum_by-cons (λ i. cond (k == i) c 0) from rest in
    elim (cases_eq k from) [
      | inl here ↦
          let first : cond (k == from) c 0 ≡ c = rw (eq-eqb k from here) refl in
          omega (arith, parts, first, sum_past k c (from + 1) count (omega arith))
      | inr later ↦
          let first : cond (k == from) c 0 ≡ 0 = rw (ne_eqb k from later) refl in
          omega (arith, parts, first, sum_one k c (from + 1) count (omega arith) (omega arith))
    ]

sum_both : (f g : ℕ → ℕ) (xs : List ℕ) → sum_by (λ i. f i + g i) xs ≡ sum_by f xs + sum_by g xs
sum_both f g [] = refl
sum_both f g (x ∷ xs) =
    omega (arith, sum_by-cons (λ i. f i + g i) x xs, sum_by-cons f x xs, sum_by-cons g x xs, sum_both f g xs)

sum_same : (f g : ℕ → ℕ) (xs : List ℕ) → ((i : ℕ) → f i ≡ g i) → sum_by f xs ≡ sum_by g xs
sum_same f g [] same = refl
sum_same f g (x ∷ xs) same = omega (arith, sum_by-cons f x xs, sum_by-cons g x xs, same x, sum_same f g xs same)

-- ---- a list of updates

-- what the first update adds to the items of updater i
sum_by_entry : (f : ℕ → ℕ) (i : ℕ) (e : Entry) (es : List Entry) → sum_by f (entries_by i (e ∷ es)) ≡ cond (e.0 == i) (f e.1) 0 + sum_by f (entries_by i es)
unfolding entries_by items_of_entries
sum_by_entry f i e es =
    elim (cases_eq e.0 i) [
      | inl here ↦ rw (eq-eqb e.0 i here) (sum_by-cons f e.1 (entries_by i es))
      | inr other ↦ rw (ne_eqb e.0 i other) (omega arith)
    ]

-- all updates weigh as much as those of all updaters
sum_of_each : (f : ℕ → ℕ) (n : ℕ) (list : List Entry) → All (λ entry. entry.0 < n) list → sum_by f (items_of_entries list) ≡ sum_by (λ i. sum_by f (entries_by i list)) (range_with_len 0 n)
unfolding entries_by items_of_entries
sum_of_each f n [] only = sym (sum_none (range_with_len 0 n))
  where
    sum_none : (xs : List ℕ) → sum_by (λ i. sum_by f (entries_by i [])) xs ≡ 0
    sum_none [] = refl
    sum_none (x ∷ xs) = omega (arith, sum_by-cons (λ i. sum_by f (entries_by i [])) x xs, sum_none xs)
sum_of_each f n (e ∷ es) only =
    let range = range_with_len 0 n in
    let inside : e.0 < n = All-head (λ (entry : Entry). entry.0 < n) e es only in
    let later = sum_of_each f n es (All-tail (λ (entry : Entry). entry.0 < n) e es only) in
    let split = sum_same (λ i. sum_by f (entries_by i (e ∷ es))) (λ i. cond (e.0 == i) (f e.1) 0 + sum_by f (entries_by i es)) range (λ i. sum_by_entry f i e es) in
    let both = sum_both (λ i. cond (e.0 == i) (f e.1) 0) (λ i. sum_by f (entries_by i es)) range in
    omega (arith, sum_by-cons f e.1 (items_of_entries es), later, split, both, sum_one e.0 (f e.1) 0 n (omega arith) (omega arith))

sum_joined : (f : ℕ → ℕ) (items : ℕ → List ℕ) (xs : List ℕ) → sum_by f (flat_map items xs) ≡ sum_by (λ i. sum_by f (items i)) xs
sum_joined f items [] = refl
sum_joined f items (x ∷ xs) =
    omega (arith, sum_by-append f (items x) (flat_map items xs), sum_by-cons (λ i. sum_by f (items i)) x xs, sum_joined f items xs)

-- over a range, what is the same of each number
sum_range : (f g : ℕ → ℕ) (from count n : ℕ) → from + count ≤ n → ((i : ℕ) → i < n → f i ≡ g i) → sum_by f (range_with_len from count) ≡ sum_by g (range_with_len from count)
sum_range f g from zero n within same = refl
sum_range f g from (suc count) n within same =
    let rest = range_with_len (from + 1) count in
    omega (arith, sum_by-cons f from rest, sum_by-cons g from rest, same from (omega arith), sum_range f g (from + 1) count n (omega arith) same)

-- a list that has exactly these items of each updater weighs as much as all of them
pub sum_of_parts : (f : ℕ → ℕ) (n : ℕ) (list : List Entry) (items : ℕ → List ℕ) → All (λ entry. entry.0 < n) list → ((i : ℕ) → i < n → entries_by i list ≡ items i)
    → sum_by f (items_of_entries list) ≡ sum_by f (flat_map items (range_with_len 0 n))
sum_of_parts f n list items only each =
    sum_of_each f n list only
    ∙ sum_range (λ i. sum_by f (entries_by i list)) (λ i. sum_by f (items i)) 0 n n (omega arith) (λ i below. ap (λ (l : List ℕ). sum_by f l) (each i below))
    ∙ sym (sum_joined f items (range_with_len 0 n))

-- ---- the estimate

length_sum : (xs : List ℕ) → sum_by (λ _. 1) xs ≡ length xs
length_sum [] = refl
length_sum (x ∷ xs) = omega (arith, sum_by-cons {X = ℕ} (λ _. 1) x xs, length_sum xs)

-- lists that weigh the same however their items are weighed
abbrev pub WeighTheSame : List ℕ → List ℕ → Type 0
WeighTheSame xs ys = (f : ℕ → ℕ) → sum_by f xs ≡ sum_by f ys

same_length : (xs ys : List ℕ) → WeighTheSame xs ys → length xs ≡ length ys
same_length xs ys same = sym (length_sum xs) ∙ same (λ _. 1) ∙ length_sum ys

same_least : (rows width x : ℕ) (xs ys : List ℕ) → WeighTheSame xs ys → least_of rows width x xs ≡ least_of rows width x ys
same_least zero width x xs ys same = least-zero width x xs ∙ same_length xs ys same ∙ sym (least-zero width x ys)
same_least (suc rows) width x xs ys same =
    omega (arith, least-suc rows width x xs, least-suc rows width x ys, same_least rows width x xs ys same, same (λ y. is_in_cell width rows (cell_of width rows x) y))

pub same_tally : (x rows width n least : ℕ) (xs ys : List ℕ) → WeighTheSame xs ys → IsTally x rows width xs n least → IsTally x rows width ys n least
same_tally x rows width n least xs ys same is = record {
  count = is.count ∙ same_length xs ys same;
  value = is.value ∙ same_least rows width x xs ys same;
  over = omega (arith, is.over, same (λ y. is_item x y));
}

pub tally_of_parts : (x rows width n least updaters : ℕ) (list : List Entry) (items : ℕ → List ℕ) → All (λ entry. entry.0 < updaters) list → ((i : ℕ) → i < updaters → entries_by i list ≡ items i)
    → IsTally x rows width (items_of_entries list) n least → IsTally x rows width (flat_map items (range_with_len 0 updaters)) n least
tally_of_parts x rows width n least updaters list items only each is =
    same_tally x rows width n least (items_of_entries list) (flat_map items (range_with_len 0 updaters)) (λ f. sum_of_parts f updaters list items only each) is
