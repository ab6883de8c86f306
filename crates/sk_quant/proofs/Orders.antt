-- Lemmas on items in order and on ranks: rising lists_of with the same ranks are one list.
use Rattle.std.proofs.Common.{◌≡◌, ℕ, zero, suc, ◌+◌, ◌<◌, ◌≤◌, Bool, true, false, ltb, cond, List, [], ◌∷◌, ◌++◌, length, get_or, map, All, IsPermutation, ⊎_elim, refl, sym, ap, ◌∙◌, arith}
use Rattle.std.specs.List.Sorted.{IsNonDecreasing}
use Rattle.std.proofs.lemmas.Bool.Decides.{nat_tests}
use Rattle.std.proofs.lemmas.Bool.{cases_order, lt-ltb, le-ltb, ltb-true, ltb-false, cond-true, cond-false}
use Rattle.std.proofs.lemmas.List.Elements.{All-append, All-head, All-tail}
use Rattle.std.proofs.lemmas.List.Sorted.{IsPermutation-refl, IsPermutation-cons, IsPermutation-trans, IsPermutation-middle, length_permutation, All-permutation, sum_by-IsPermutation}
use Rattle.std.proofs.lemmas.List.Sums.{sum_by-cons, sum_by-append}
use Rattle.sk_quant.specs.Order.{rising_with, in_order}
use Rattle.sk_quant.specs.Ranks.{rank_of}

-- ---- ranks

-- what a member adds to the rank of t
abbrev pub one_below : ℕ → ℕ → ℕ
one_below t x = cond (ltb x t) 1 0

pub one_below-lt : (t x : ℕ) → x < t → one_below t x ≡ 1
one_below-lt t x less = cond-true (ltb x t) 1 0 (lt-ltb x t less)

pub one_below-le : (t x : ℕ) → t ≤ x → one_below t x ≡ 0
one_below-le t x le = cond-false (ltb x t) 1 0 (le-ltb x t le)

pub rank-cons : (t x : ℕ) (xs : List ℕ) → rank_of t (x ∷ xs) ≡ one_below t x + rank_of t xs
rank-cons t x xs = sum_by-cons (one_below t) x xs

pub ranks_rise_by_one : (x : ℕ) (numbers : List ℕ) → rank_of (x + 1) (map (λ (n : ℕ). n + 1) numbers) ≡ rank_of x numbers
ranks_rise_by_one x [] = refl
ranks_rise_by_one x (n ∷ rest) =
    omega (arith, rank-cons x n rest, rank-cons (x + 1) (n + 1) (map (λ (m : ℕ). m + 1) rest), one_more n, ranks_rise_by_one x rest)
  where
    one_more : (n : ℕ) → one_below (x + 1) (n + 1) ≡ one_below x n
    one_more n = grind (arith, nat_tests)

pub rank-append : (t : ℕ) (xs ys : List ℕ) → rank_of t (xs ++ ys) ≡ rank_of t xs + rank_of t ys
rank-append t xs ys = sum_by-append (one_below t) xs ys

pub rank-permutation : (t : ℕ) (xs ys : List ℕ) → IsPermutation xs ys → rank_of t ys ≡ rank_of t xs
rank-permutation t xs ys same = sum_by-IsPermutation (one_below t) xs ys same

-- ---- rising lists_of

-- a rising list whose members are all at least b
abbrev pub AscendsFrom : ℕ → List ℕ → Type 0
AscendsFrom b [] = Unit {0}
AscendsFrom b (x ∷ xs) = (b ≤ x) × AscendsFrom x xs

pub AscendsFrom-lower : (a b : ℕ) (xs : List ℕ) → a ≤ b → AscendsFrom b xs → AscendsFrom a xs
AscendsFrom-lower a b [] le up = tt
AscendsFrom-lower a b (x ∷ xs) le up = (omega (arith, up.0), up.1)

AscendsFrom-at : (b : ℕ) (xs : List ℕ) (i d : ℕ) → AscendsFrom b xs → i < length xs → b ≤ get_or xs i d
AscendsFrom-at b [] i d up inside = absurd (omega arith)
AscendsFrom-at b (x ∷ xs) zero d up inside = up.0
AscendsFrom-at b (x ∷ xs) (suc i) d up inside = omega (arith, up.0, AscendsFrom-at x xs i d up.1 (omega arith))

pub non_decreasing_from_AscendsFrom : (b : ℕ) (xs : List ℕ) → AscendsFrom b xs → IsNonDecreasing xs
non_decreasing_from_AscendsFrom b [] up i j d le inside = absurd (omega arith)
non_decreasing_from_AscendsFrom b (x ∷ xs) up zero zero d le inside = omega arith
non_decreasing_from_AscendsFrom b (x ∷ xs) up zero (suc j) d le inside = AscendsFrom-at x xs j d up.1 (omega arith)
non_decreasing_from_AscendsFrom b (x ∷ xs) up (suc i) zero d le inside = absurd (omega arith)
non_decreasing_from_AscendsFrom b (x ∷ xs) up (suc i) (suc j) d le inside = non_decreasing_from_AscendsFrom x xs up.1 i j d (omega arith) (omega arith)

AscendsFrom-first : (b x : ℕ) (xs : List ℕ) → b ≤ x → IsNonDecreasing (x ∷ xs) → AscendsFrom b (x ∷ xs)
AscendsFrom-first b x [] le up = (le, tt)
AscendsFrom-first b x (y ∷ xs) le up =
    (le, AscendsFrom-first x y xs (up zero (suc zero) 0 (omega arith) (omega arith)) (λ i j d order inside. up (suc i) (suc j) d (omega arith) (omega arith)))

pub AscendsFrom-non_decreasing : (xs : List ℕ) → IsNonDecreasing xs → AscendsFrom 0 xs
AscendsFrom-non_decreasing [] up = tt
AscendsFrom-non_decreasing (x ∷ xs) up = AscendsFrom-first 0 x xs (omega arith) up

pub AscendsFrom-push : (b z : ℕ) (xs : List ℕ) → b ≤ z → All (λ y. y ≤ z) xs → AscendsFrom b xs → AscendsFrom b (xs ++ z ∷ [])
AscendsFrom-push b z [] le all up = (le, tt)
AscendsFrom-push b z (x ∷ xs) le all up = (up.0, AscendsFrom-push x z xs (All-head (λ y. y ≤ z) x xs all) (All-tail (λ y. y ≤ z) x xs all) up.1)

-- nothing of it is below its least
pub none_below : (t b : ℕ) (xs : List ℕ) → t ≤ b → AscendsFrom b xs → rank_of t xs ≡ 0
none_below t b [] le up = refl
none_below t b (x ∷ xs) le up = omega (arith, rank-cons t x xs, one_below-le t x (omega (arith, up.0)), none_below t x xs (omega (arith, up.0)) up.1)

same_from_ranks : (b c : ℕ) (xs ys : List ℕ) → AscendsFrom b xs → AscendsFrom c ys → ((t : ℕ) → rank_of t xs ≡ rank_of t ys) → xs ≡ ys
same_from_ranks b c [] [] up up' same = refl
same_from_ranks b c [] (y ∷ ys) up up' same = absurd (omega (arith, same (suc y), rank-cons (suc y) y ys, one_below-lt (suc y) y (omega arith)))
same_from_ranks b c (x ∷ xs) [] up up' same = absurd (omega (arith, same (suc x), rank-cons (suc x) x xs, one_below-lt (suc x) x (omega arith)))
same_from_ranks b c (x ∷ xs) (y ∷ ys) up up' same =
    ap (λ (n : ℕ). n ∷ xs) first ∙ ap (λ (l : List ℕ). y ∷ l) (same_from_ranks x y xs ys up.1 up'.1 rest)
  where
    apart : (x y : ℕ) (xs ys : List ℕ) → x < y → AscendsFrom y (y ∷ ys) → rank_of y (x ∷ xs) ≡ rank_of y (y ∷ ys) → ⊥
    apart x y xs ys less up is = omega (arith, is, none_below y y (y ∷ ys) (omega arith) up, rank-cons y x xs, one_below-lt y x less)

    first : x ≡ y
    first = ⊎_elim (λ is. is) (λ other. ⊎_elim
        (λ less. absurd (apart x y xs ys less (omega arith, up'.1) (same y)))
        (λ more. absurd (apart y x ys xs more (omega arith, up.1) (sym (same x)))) other) (cases_order x y)

    rest : (t : ℕ) → rank_of t xs ≡ rank_of t ys
    rest t = omega (arith, same t, rank-cons t x xs, rank-cons t y ys, ap (λ (n : ℕ). one_below t n) first)

-- ---- in order

pub IsPermutation-rising_with : (x : ℕ) (xs : List ℕ) → IsPermutation (x ∷ xs) (rising_with x xs)
unfolding rising_with
IsPermutation-rising_with x [] = IsPermutation-refl (x ∷ [])
IsPermutation-rising_with x (y ∷ xs) =
    elim (ltb x y) as (λ b. IsPermutation (x ∷ y ∷ xs) (cond b (x ∷ y ∷ xs) (y ∷ rising_with x xs))) [
      | true ↦ IsPermutation-refl (x ∷ y ∷ xs)
      | false ↦ IsPermutation-trans (x ∷ y ∷ xs) (y ∷ x ∷ xs) (y ∷ rising_with x xs)
          (IsPermutation-middle (x ∷ []) y xs) (IsPermutation-cons y (x ∷ xs) (rising_with x xs) (IsPermutation-rising_with x xs))
    ]

pub IsPermutation-in_order : (xs : List ℕ) → IsPermutation xs (in_order xs)
unfolding in_order
IsPermutation-in_order [] = IsPermutation-refl []
IsPermutation-in_order (x ∷ xs) =
    IsPermutation-trans (x ∷ xs) (x ∷ in_order xs) (rising_with x (in_order xs))
    (IsPermutation-cons x xs (in_order xs) (IsPermutation-in_order xs)) (IsPermutation-rising_with x (in_order xs))

pub length-in_order : (xs : List ℕ) → length (in_order xs) ≡ length xs
length-in_order xs = length_permutation xs (in_order xs) (IsPermutation-in_order xs)

pub rank-in_order : (t : ℕ) (xs : List ℕ) → rank_of t (in_order xs) ≡ rank_of t xs
rank-in_order t xs = rank-permutation t xs (in_order xs) (IsPermutation-in_order xs)

AscendsFrom-rising_with : (b x : ℕ) (xs : List ℕ) → b ≤ x → AscendsFrom b xs → AscendsFrom b (rising_with x xs)
unfolding rising_with
AscendsFrom-rising_with b x [] le up = (le, tt)
AscendsFrom-rising_with b x (y ∷ xs) le up = by_test (λ le'. AscendsFrom-rising_with y x xs le' up.1) (ltb x y) refl
  where
    by_test : (y ≤ x → AscendsFrom y (rising_with x xs)) → (t : Bool) → ltb x y ≡ t → AscendsFrom b (cond t (x ∷ y ∷ xs) (y ∷ rising_with x xs))
    by_test more true is = (le, (omega (arith, ltb-true x y is), up.1))
    by_test more false is = (up.0, more (ltb-false x y is))

pub AscendsFrom-in_order : (xs : List ℕ) → AscendsFrom 0 (in_order xs)
unfolding in_order
AscendsFrom-in_order [] = tt
AscendsFrom-in_order (x ∷ xs) = AscendsFrom-rising_with 0 x (in_order xs) (omega arith) (AscendsFrom-in_order xs)

pub in_order_rises : (xs : List ℕ) → IsNonDecreasing (in_order xs)
in_order_rises xs = non_decreasing_from_AscendsFrom 0 (in_order xs) (AscendsFrom-in_order xs)

-- a rising list with the members of another is that one in order
pub in_order_is : (xs ys : List ℕ) → AscendsFrom 0 ys → ((t : ℕ) → rank_of t ys ≡ rank_of t xs) → in_order xs ≡ ys
in_order_is xs ys up same = same_from_ranks 0 0 (in_order xs) ys (AscendsFrom-in_order xs) up (λ t. rank-in_order t xs ∙ sym (same t))

pub in_order_of_permutation : (xs ys : List ℕ) → IsPermutation xs ys → IsNonDecreasing ys → in_order xs ≡ ys
in_order_of_permutation xs ys same up = in_order_is xs ys (AscendsFrom-non_decreasing ys up) (λ t. rank-permutation t xs ys same)

pub in_order_of_rising : (xs : List ℕ) → IsNonDecreasing xs → in_order xs ≡ xs
in_order_of_rising xs up = in_order_is xs xs (AscendsFrom-non_decreasing xs up) (λ t. refl)

-- the greatest comes last
pub in_order_last : (xs ys : List ℕ) (z : ℕ) → All (λ y. y ≤ z) xs → All (λ y. y ≤ z) ys → in_order (xs ++ z ∷ ys) ≡ in_order (xs ++ ys) ++ z ∷ []
in_order_last xs ys z before behind =
    let others = in_order (xs ++ ys) in
    let all = All-permutation (λ y. y ≤ z) (xs ++ ys) others (IsPermutation-in_order (xs ++ ys)) (All-append (λ y. y ≤ z) xs ys before behind) in
    in_order_is (xs ++ z ∷ ys) (others ++ z ∷ []) (AscendsFrom-push 0 z others (omega arith) all (AscendsFrom-in_order (xs ++ ys)))
    (λ t. omega (arith, rank-append t others (z ∷ []), rank-in_order t (xs ++ ys), rank-append t xs ys, rank-append t xs (z ∷ ys), rank-cons t z ys, rank-cons t z []))
