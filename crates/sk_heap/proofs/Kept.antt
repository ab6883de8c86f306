-- What one more hash makes of the kept ones, as a heap has them.
use Rattle.std.proofs.Common.{◌≡◌, ◌≢◌, ℕ, ◌+◌, ◌-◌, ◌<◌, ◌≤◌, Bool, true, false, cond, ltb, nat_eq, List, [], ◌∷◌, ◌++◌, length, take, drop, reverse, get_or, All, Contains, ◌⊎◌, inl, inr, ⊎_elim, refl, sym, ap, ◌∙◌, subst, arith, take_all}
use Rattle.std.specs.List.{IsDistinct}
use Rattle.std.specs.List.Sorted.{IsPermutation, IsStrictlyIncreasing}
use Rattle.std.proofs.lemmas.Bool.{cases_order}
use Rattle.std.proofs.lemmas.Bool.Decides.{nat_tests}
use Rattle.std.proofs.lemmas.List.Elements.{All-contains, Contains-append_left, Contains-push, Contains-push_cases, Contains-get_or}
use Rattle.std.proofs.lemmas.List.Kept.{AllPairs-from_increasing}
use Rattle.std.proofs.lemmas.List.Sorted.{length_permutation, Contains-permutation, IsPermutation-sym, IsPermutation-reverse}
use Rattle.std.proofs.lemmas.List.{get_or_default, drop_more, reverse-append}
use Rattle.sk_model.specs.Sketch.{placed, rising, k_smallest}
use Rattle.sk_model.proofs.Rising.{Has, Has-from_Contains, Contains-from_Has, increasing_from_RisesFrom}
use Rattle.sk_model.proofs.Sketch.{RisesFrom-rising, Has-rising, rising-has, rising_is, k_smallest_is, k_smallest_append, one_more}
use Rattle.sk_theta.specs.Kept.{theta_kept}
use Rattle.sk_heap.specs.Held.{IsExchanged}
use Rattle.sk_heap.proofs.Distinct.{Has-permutation, All-from_Has, head_once, distinct_moved, rising_moves}
use Rattle.sk_model.specs.Width.{item_end}

pub rises : (xs : List ℕ) → IsStrictlyIncreasing (rising xs)
rises xs = increasing_from_RisesFrom 0 (rising xs) (RisesFrom-rising xs)

pub length_rising : (xs : List ℕ) → IsDistinct nat_eq xs → length (rising xs) ≡ length xs
length_rising xs distinct = sym (length_permutation (rising xs) xs (rising_moves xs distinct))

pub all_kept : (k : ℕ) (xs : List ℕ) → length (rising xs) ≤ k → k_smallest k xs ≡ rising xs
unfolding k_smallest
all_kept k xs within = take_all k (rising xs) within

-- the hashes of a heap are as good as the list that it keeps the k smallest of
pub joined_stands : (k : ℕ) (heap hashes more : List ℕ) → length (rising heap) ≤ k → rising heap ≡ k_smallest k more → k_smallest k (hashes ++ heap) ≡ k_smallest k (hashes ++ more)
joined_stands k heap hashes more within stands =
    sym (k_smallest_append k hashes heap)
    ∙ ap (λ (l : List ℕ). k_smallest k (k_smallest k hashes ++ l)) (all_kept k heap within ∙ stands)
    ∙ k_smallest_append k hashes more

-- the new hashes are the old ones and h, or those of them that are the least
kept_more : (k h : ℕ) (xs ys : List ℕ) → length (rising xs) ≤ k → length (rising ys) ≤ k
    → ((z : ℕ) → Has ys z → (h ≡ z) ⊎ Has xs z)
    → ((z : ℕ) → (h ≡ z) ⊎ Has xs z → Has ys z ⊎ ((length (rising ys) ≡ k) × All (λ y. y < z) (rising ys)))
    → rising ys ≡ take k (placed h (rising xs))
kept_more k h xs ys within within' to from =
    sym (k_smallest_is k (rising ys) (xs ++ h ∷ []) (rises ys) within'
    (λ z c. ⊎_elim (λ same. subst (λ (z : ℕ). Contains (xs ++ h ∷ []) z) same (Contains-push xs h)) (λ g. Contains-append_left xs (h ∷ []) z (Contains-from_Has xs z g)) (to z (Has-rising ys z (Has-from_Contains (rising ys) z c))))
    (λ z c. ⊎_elim (λ g. inl (Contains-from_Has (rising ys) z (rising-has ys z g))) (λ p. inr p) (from z (⊎_elim (λ c'. inr (Has-from_Contains xs z c')) (λ same. inl same) (Contains-push_cases xs h z c)))))
    ∙ one_more k h xs
    ∙ ap (λ (l : List ℕ). take k (placed h l)) (all_kept k xs within)

-- a hash that is there
pub kept_there : (k h : ℕ) (xs : List ℕ) → IsDistinct nat_eq xs → length xs ≤ k → Has xs h → rising xs ≡ take k (placed h (rising xs))
kept_there k h xs distinct within there =
    let few : length (rising xs) ≤ k = omega (arith, length_rising xs distinct) in
    kept_more k h xs xs few few (λ z g. inr g) (λ z g. inl (⊎_elim (λ same. rw (← same) there) (λ g'. g') g))

-- a list from the last member to the first has the same distinct ones
pub rising_reverse : (xs : List ℕ) → rising (reverse xs) ≡ rising xs
rising_reverse xs =
    let moved = IsPermutation-reverse xs in
    sym (rising_is (rising (reverse xs)) xs (rises (reverse xs))
    (λ z c. Contains-permutation (reverse xs) xs z (IsPermutation-sym xs (reverse xs) moved) (Contains-from_Has (reverse xs) z (Has-rising (reverse xs) z (Has-from_Contains (rising (reverse xs)) z c))))
    (λ z c. Contains-from_Has (rising (reverse xs)) z (rising-has (reverse xs) z (Has-from_Contains (reverse xs) z (Contains-permutation xs (reverse xs) z moved c)))))

pub joined_back : (k : ℕ) (heap hashes more : List ℕ) → length (rising heap) ≤ k → rising heap ≡ k_smallest k more → k_smallest k (hashes ++ reverse heap) ≡ k_smallest k (hashes ++ more)
joined_back k heap hashes more within stands =
    let same : rising (reverse heap) ≡ rising heap = rising_reverse heap in
    joined_stands k (reverse heap) hashes more (omega (arith, ap length same)) (same ∙ stands)

pub reverse_more : (xs : List ℕ) (i : ℕ) → i < length xs → reverse (drop i xs) ≡ reverse (drop (i + 1) xs) ++ get_or xs i 0 ∷ []
reverse_more xs i inside = ap (λ (l : List ℕ). reverse l) (drop_more xs i 0 inside) ∙ reverse-append (get_or xs i 0 ∷ []) (drop (i + 1) xs)

-- one more than fewer than k
pub kept_added : (k h : ℕ) (xs ys : List ℕ) → IsDistinct nat_eq xs → IsDistinct nat_eq ys → length ys ≤ k → IsPermutation (h ∷ xs) ys → rising ys ≡ take k (placed h (rising xs))
kept_added k h xs ys distinct distinct' within moved =
    let longer = length_permutation (h ∷ xs) ys moved in
    kept_more k h xs ys (omega (arith, length_rising xs distinct)) (omega (arith, length_rising ys distinct'))
    (λ z g. Has-permutation ys (h ∷ xs) z (IsPermutation-sym (h ∷ xs) ys moved) g)
    (λ z g. inl (Has-permutation (h ∷ xs) ys z moved g))

-- one for the greatest of k
pub kept_exchanged : (k h greatest : ℕ) (xs ys : List ℕ) → IsDistinct nat_eq xs → IsDistinct nat_eq ys → length xs ≡ k → IsExchanged h xs ys greatest → h < greatest → rising ys ≡ take k (placed h (rising xs))
kept_exchanged k h greatest xs ys distinct distinct' full e less =
    let rest = e.rest in
    let long = length_permutation xs (greatest ∷ rest) (e.out) in
    let long' = length_permutation (h ∷ rest) ys (e.put) in
    let full' : length (rising ys) ≡ k = omega (arith, length_rising ys distinct') in
    let apart = head_once greatest rest (distinct_moved xs (greatest ∷ rest) (e.out) distinct) in
    let below : (z : ℕ) → Has (h ∷ rest) z → z < greatest = λ z g.
    ⊎_elim (λ same. omega arith)
    (λ g'.
    let most : z ≤ greatest = All-contains (λ y. y ≤ greatest) xs z (e.most) (Contains-from_Has xs z (Has-permutation (greatest ∷ rest) xs z (IsPermutation-sym xs (greatest ∷ rest) (e.out)) (inr g'))) in
    ⊎_elim (λ same. absurd (apart (rw (← same) g'))) (λ other. ⊎_elim (λ l. l) (λ l. absurd (omega arith)) other) (cases_order z greatest))
    g in
    let back : (z : ℕ) → Has ys z → Has (h ∷ rest) z = λ z g. Has-permutation ys (h ∷ rest) z (IsPermutation-sym (h ∷ rest) ys (e.put)) g in
    kept_more k h xs ys (omega (arith, length_rising xs distinct)) (omega arith)
    (λ z g. ⊎_elim (λ same. inl same) (λ g'. inr (Has-permutation (greatest ∷ rest) xs z (IsPermutation-sym xs (greatest ∷ rest) (e.out)) (inr g'))) (back z g))
    (λ z g.
    ⊎_elim (λ same. inl (Has-permutation (h ∷ rest) ys z (e.put) (inl same)))
    (λ g'.
    ⊎_elim
    (λ same. inr (full', All-from_Has (λ y. y < z) (rising ys) (λ y p. rw (← same) (below y (back y (Has-rising ys y p))))))
    (λ g''. inl (Has-permutation (h ∷ rest) ys z (e.put) (inr g'')))
    (Has-permutation xs (greatest ∷ rest) z (e.out) g'))
    g)

-- a hash that is new
pub kept_changed : (h : ℕ) (xs ys : List ℕ) → (Has xs h → ⊥) → Has ys h → rising ys ≢ rising xs
kept_changed h xs ys absent there same = absent (Has-rising xs h (subst (λ l. Has l h) same (rising-has ys h there)))

-- ---- theta

pub theta_few : (k : ℕ) (xs : List ℕ) → IsDistinct nat_eq xs → length xs < k → theta_kept k (rising xs) ≡ item_end
theta_few k xs distinct few = let long = length_rising xs distinct in grind (arith, nat_tests)

pub theta_full : (k x : ℕ) (xs : List ℕ) → IsDistinct nat_eq xs → 1 ≤ k → length xs ≡ k → Contains xs x → All (λ y. y ≤ x) xs → theta_kept k (rising xs) ≡ x
theta_full k x xs distinct one full there most =
    let kept : List ℕ = rising xs in
    let long : length kept ≡ k = omega (arith, length_rising xs distinct) in
    let inside : k - 1 < length kept = omega arith in
    let last : get_or kept (k - 1) 0 ≤ x = All-contains (λ y. y ≤ x) xs (get_or kept (k - 1) 0) most (Contains-from_Has xs (get_or kept (k - 1) 0) (Has-rising xs (get_or kept (k - 1) 0) (Has-from_Contains kept (get_or kept (k - 1) 0) (Contains-get_or kept (k - 1) 0 inside)))) in
    let at = Contains-from_Has kept x (rising-has xs x (Has-from_Contains xs x there)) in
    let first : x ≤ get_or kept (k - 1) 0 = up_to kept at.0 (k - 1) (rises xs) (omega (arith, at.1)) inside (sym (get_or_default kept at.0 0 x at.1 ∙ at.2)) in
    let value : get_or kept (k - 1) 0 ≡ x = omega arith in
    at_full (ltb (length kept) k) (grind (arith, nat_tests)) ∙ value
  where
    up_to : (kept : List ℕ) (i j : ℕ) → IsStrictlyIncreasing kept → i ≤ j → j < length kept → x ≡ get_or kept i 0 → x ≤ get_or kept j 0
    up_to kept i j up le inside is =
        ⊎_elim (λ same. omega (arith, is, ap (λ (i : ℕ). get_or kept i 0) same)) (λ apart. ⊎_elim (λ less. omega (arith, is, AllPairs-from_increasing kept up i j 0 less inside)) (λ more. absurd (omega arith)) apart) (cases_order i j)

    at_full : (b : Bool) → b ≡ false → cond b item_end (get_or (rising xs) (k - 1) 0) ≡ get_or (rising xs) (k - 1) 0
    at_full true e = absurd (cc)
    at_full false e = refl
