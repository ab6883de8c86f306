-- Lists that grow at their end, their parts, and ranges of numbers.
use Rattle.std.proofs.Common.{◌≡◌, ◌⊎◌, inl, inr, ℕ, zero, suc, ◌+◌, ◌-◌, ◌<◌, ◌≤◌, List, [], ◌∷◌, ◌++◌, length, get_or, take, drop, slice_range, All, refl, sym, ap, subst, ◌∙◌, arith, length-append, length-drop}
use Rattle.std.specs.List.{range_with_len}
use Rattle.std.proofs.Math.Seq.{take-add, get_or-append_seam}
use Rattle.std.proofs.lemmas.Bool.{cases_lt}
use Rattle.std.proofs.lemmas.List.{take_more, get_or-drop, drop-drop, get_or_append_left}
use mathlib.Core.Option.{some, some-injective, some-ne-none}
use lib.ListN.{get_elem?}

-- ---- n numbers from one on

pub range_split : (from m n : ℕ) → range_with_len from (m + n) ≡ range_with_len from m ++ range_with_len (from + m) n
range_split from zero n =
    let none : zero + n ≡ n = omega arith in let here : from ≡ from + zero = omega arith in ap (λ k. range_with_len from k) none ∙ ap (λ k. range_with_len k n) here
range_split from (suc m) n =
    let count : suc m + n ≡ suc (m + n) = omega arith in let next : from + 1 + m ≡ from + suc m = omega arith in
    ap (λ k. range_with_len from k) count ∙ ap (λ l. from ∷ l) (range_split (from + 1) m n ∙ ap (λ k. range_with_len (from + 1) m ++ range_with_len k n) next)

-- ---- an element more at the end

-- what holds of the first ones and of the last holds of all
pub with_last : {A : Type 0} (P : ℕ → A → Type 0) (xs : List A) (x : A) → ((i : ℕ) (d : A) → i < length xs → P i (get_or xs i d)) → P (length xs) x → (i : ℕ) (d : A) → i < length (xs ++ x ∷ []) → P i (get_or (xs ++ x ∷ []) i d)
with_last {A} P xs x first last i d within = by_place (cases_lt i (length xs))
  where
    by_place : (i < length xs) ⊎ (length xs ≤ i) → P i (get_or (xs ++ x ∷ []) i d)
    by_place (inl early) = subst (P i) (sym (get_or_append_left xs (x ∷ []) d i early)) (first i d early)
    by_place (inr later) =
        let same : length xs ≡ i = omega (arith, length-append xs (x ∷ [])) in
        subst (λ j. P j (get_or (xs ++ x ∷ []) j d)) same (subst (P (length xs)) (sym (get_or-append_seam xs x [] d)) last)

-- ---- slices

pub slice_none : {A : Type 0} (xs : List A) (at : ℕ) → slice_range xs at at ≡ []
slice_none xs at = let none : at - at ≡ 0 = omega arith in ap (λ n. take n (drop at xs)) none

pub slice_more : {A : Type 0} (xs : List A) (from at : ℕ) (d : A) → from ≤ at → at < length xs → slice_range xs from (at + 1) ≡ slice_range xs from at ++ get_or xs at d ∷ []
slice_more xs from at d le within =
    let next : at + 1 - from ≡ (at - from) + 1 = omega arith in
    let place : from + (at - from) ≡ at = omega arith in
    let short : at - from < length (drop from xs) = omega (arith, length-drop from xs) in
    ap (λ n. take n (drop from xs)) next ∙ take_more (drop from xs) (at - from) d short ∙ ap (λ x. slice_range xs from at ++ x ∷ []) (get_or-drop from xs (at - from) d ∙ ap (λ n. get_or xs n d) place)

-- a slice is its part up to a place, and that from there
pub slice_split : {A : Type 0} (xs : List A) (from place to : ℕ) → from ≤ place → place ≤ to → slice_range xs from to ≡ slice_range xs from place ++ slice_range xs place to
slice_split xs from place to low high =
    let whole : to - from ≡ (place - from) + (to - place) = omega arith in
    let there : from + (place - from) ≡ place = omega arith in
    ap (λ n. take n (drop from xs)) whole ∙ take-add (place - from) (to - place) (drop from xs)
    ∙ ap (λ l. slice_range xs from place ++ take (to - place) l) (drop-drop (place - from) from xs ∙ ap (λ n. drop n xs) there)

-- ---- the element at a place

pub at_within : {A : Type 0} (l : List A) (i : ℕ) (a : A) → get_elem? l i ≡ some a → i < length l
at_within [] i a e = absurd (some-ne-none a (sym e))
at_within (x ∷ xs) zero a e = omega arith
at_within (x ∷ xs) (suc i) a e = let more = at_within xs i a e in omega arith

at_is : {A : Type 0} (l : List A) (i : ℕ) (a : A) → get_elem? l i ≡ some a → get_or l i a ≡ a
at_is [] i a e = refl
at_is (x ∷ l) zero a e = some-injective x a e
at_is (x ∷ l) (suc i) a e = at_is l i a e

pub all_at : {A : Type 0} (P : A → Type 0) (l : List A) (i : ℕ) (a : A) → All P l → get_elem? l i ≡ some a → P a
all_at P l i a all e = subst P (at_is l i a e) (all i a (at_within l i a e))

pub dropped_at : {A : Type 0} (P : A → Type 0) (n : ℕ) (l : List A) (i : ℕ) (a : A) → All P (drop n l) → n ≤ i → get_elem? l i ≡ some a → P a
dropped_at P zero l i a all le e = all_at P l i a all e
dropped_at P (suc n) [] i a all le e = absurd (some-ne-none a (sym e))
dropped_at P (suc n) (x ∷ l) zero a all le e = absurd (omega arith)
dropped_at P (suc n) (x ∷ l) (suc i) a all le e = dropped_at P n l i a all (omega arith) e
