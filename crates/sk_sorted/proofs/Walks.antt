-- Two rising lists, walked together.
use Rattle.std.proofs.Common.{◌≡◌, ◌≢◌, slice_range, ℕ, zero, suc, ◌+◌, ◌-◌, ◌<◌, ◌≤◌, Bool, true, false, leb, min, ◌⊎◌, inl, inr, ⊎_elim, List, [], ◌∷◌, ◌++◌, length, take, drop, get_or, refl, sym, ap, ◌∙◌, subst, arith, append-nil, length-drop, take_at, take_all, take-take}
use Rattle.std.specs.List.Sorted.{IsStrictlyIncreasing}
use Rattle.std.proofs.lemmas.Bool.Decides.{nat_tests}
use Rattle.std.proofs.lemmas.List.{drop-drop}
use Rattle.std.proofs.Math.Seq.{drop-cons}
use Rattle.sk_model.specs.Sketch.{rising, k_smallest}
use Rattle.sk_model.proofs.Rising.{RisesFrom, RisesFrom-increasing, RisesFrom-member, Has, Has-append_left, Has-from_Contains, Contains-from_Has, increasing_from_RisesFrom}
use Rattle.sk_model.proofs.Sketch.{RisesFrom-rising, Has-rising, rising-has, rising_is, rising_of_increasing}
use Rattle.sk_sorted.proofs.Members.{has_right, has_cases, rises_above}
use mir.Val.{bool_byte}

-- ---- a list and what is left of it

-- all but this number, which nothing of the list is below, are left
record IsAfter (next : ℕ) (list left : List ℕ) : Type 0 where
  pub above : (z : ℕ) → Has left z → suc next ≤ z
  pub of : (z : ℕ) → Has left z → Has list z
  pub all : (z : ℕ) → Has list z → (next ≡ z) ⊎ Has left z

after_head : (x : ℕ) (xs : List ℕ) → RisesFrom (suc x) xs → IsAfter x (x ∷ xs) xs
after_head x xs up = record {
  above = λ z h. RisesFrom-member (suc x) xs z up h;
  of = λ z h. inr h;
  all = λ z h. h;
}

after_none : (next : ℕ) (xs : List ℕ) → RisesFrom (suc next) xs → IsAfter next xs xs
after_none next xs up = record {
  above = λ z h. RisesFrom-member (suc next) xs z up h;
  of = λ z h. h;
  all = λ z h. inr h;
}

after_both : (next : ℕ) (a b a' b' : List ℕ) → IsAfter next a a' → IsAfter next b b' → IsAfter next (a ++ b) (a' ++ b')
after_both next a b a' b' of_a of_b = record {
  above = λ z h. ⊎_elim (of_a.above z) (of_b.above z) (has_cases a' b' z h);
  of = λ z h. ⊎_elim (λ g. Has-append_left a b z (of_a.of z g)) (λ g. has_right a b z (of_b.of z g)) (has_cases a' b' z h);
  all = λ z h. ⊎_elim
      (λ g. ⊎_elim inl (λ g'. inr (Has-append_left a' b' z g')) (of_a.all z g))
      (λ g. ⊎_elim inl (λ g'. inr (has_right a' b' z g')) (of_b.all z g))
      (has_cases a b z h);
}

-- the least member comes first, and then all others
least_first : (next : ℕ) (list left : List ℕ) → IsAfter next list left → Has list next → rising list ≡ next ∷ rising left
least_first next list left after has =
    rising_is (next ∷ rising left) list (increasing_from_RisesFrom 0 (next ∷ rising left) (omega arith, rises_above (suc next) (rising left) (RisesFrom-rising left) (λ z h. after.above z (Has-rising left z h))))
    (λ z c. Contains-from_Has list z (into z (Has-from_Contains (next ∷ rising left) z c)))
    (λ z c. Contains-from_Has (next ∷ rising left) z (back z (after.all z (Has-from_Contains list z c))))
  where
    into : (z : ℕ) → Has (next ∷ rising left) z → Has list z
    into z (inl is) = subst (λ n. Has list n) is has
    into z (inr h) = after.of z (Has-rising left z h)

    back : (z : ℕ) → (next ≡ z) ⊎ Has left z → Has (next ∷ rising left) z
    back z (inl is) = inl is
    back z (inr h) = inr (rising-has left z h)

-- ---- a step

-- each head goes that is not above the other
heads_step : (x y : ℕ) (a b : List ℕ) → RisesFrom (suc x) a → RisesFrom (suc y) b
    → rising ((x ∷ a) ++ (y ∷ b)) ≡ min x y ∷ rising (drop (bool_byte (leb x y)) (x ∷ a) ++ drop (bool_byte (leb y x)) (y ∷ b))
heads_step x y a b a_up b_up = by_tests (leb x y) (leb y x) (λ is. grind (arith, nat_tests)) (λ is. grind (arith, nat_tests)) (λ is. grind (arith, nat_tests)) (λ is. grind (arith, nat_tests))
  where
    by_tests : (p q : Bool) → (p ≡ true → x ≤ y) → (p ≡ false → y < x) → (q ≡ true → y ≤ x) → (q ≡ false → x < y)
        → rising ((x ∷ a) ++ (y ∷ b)) ≡ min x y ∷ rising (drop (bool_byte p) (x ∷ a) ++ drop (bool_byte q) (y ∷ b))
    by_tests true true le gt ge lt =
        let same : x ≡ y = omega (arith, le refl, ge refl) in
        let least : x ≡ min x y = omega (arith, le refl) in
        least_first x ((x ∷ a) ++ (y ∷ b)) (a ++ b) (after_both x (x ∷ a) (y ∷ b) a b (after_head x a a_up) (subst (λ n. IsAfter n (y ∷ b) b) (sym same) (after_head y b b_up))) (inl refl)
        ∙ ap (λ n. n ∷ rising (a ++ b)) least
    by_tests true false le gt ge lt =
        let least : x ≡ min x y = omega (arith, le refl) in
        least_first x ((x ∷ a) ++ (y ∷ b)) (a ++ (y ∷ b)) (after_both x (x ∷ a) (y ∷ b) a (y ∷ b) (after_head x a a_up) (after_none x (y ∷ b) (omega (arith, lt refl), b_up))) (inl refl)
        ∙ ap (λ n. n ∷ rising (a ++ (y ∷ b))) least
    by_tests false true le gt ge lt =
        let least : y ≡ min x y = omega (arith, ge refl) in
        least_first y ((x ∷ a) ++ (y ∷ b)) ((x ∷ a) ++ b) (after_both y (x ∷ a) (y ∷ b) (x ∷ a) b (after_none y (x ∷ a) (omega (arith, gt refl), a_up)) (after_head y b b_up)) (has_right (x ∷ a) (y ∷ b) y (inl refl))
        ∙ ap (λ n. n ∷ rising ((x ∷ a) ++ b)) least
    by_tests false false le gt ge lt = absurd (omega (arith, gt refl, lt refl))

lower : (b c : ℕ) (xs : List ℕ) → b ≤ c → RisesFrom c xs → RisesFrom b xs
lower b c [] le up = tt
lower b c (x ∷ xs) le up = (omega (arith, up.0), up.1)

RisesFrom-drop : (b n : ℕ) (xs : List ℕ) → RisesFrom b xs → RisesFrom b (drop n xs)
RisesFrom-drop b zero xs up = up
RisesFrom-drop b (suc n) [] up = tt
RisesFrom-drop b (suc n) (x ∷ xs) up = lower b (suc x) (drop n xs) (omega (arith, up.0)) (RisesFrom-drop (suc x) n xs up.1)

pub increasing_drop : (n : ℕ) (xs : List ℕ) → IsStrictlyIncreasing xs → IsStrictlyIncreasing (drop n xs)
increasing_drop n xs up = increasing_from_RisesFrom 0 (drop n xs) (RisesFrom-drop 0 n xs (RisesFrom-increasing xs up))

rest_rises : (xs : List ℕ) (i : ℕ) → IsStrictlyIncreasing xs → i < length xs → RisesFrom (suc (get_or xs i 0)) (drop (suc i) xs)
rest_rises xs i up inside = (subst (λ l. RisesFrom 0 l) (drop-cons xs i 0 inside) (RisesFrom-drop 0 i xs (RisesFrom-increasing xs up))).1

pub walk_step : (kept piece : List ℕ) (i j : ℕ) → IsStrictlyIncreasing kept → IsStrictlyIncreasing piece → i < length kept → j < length piece
    → let x = get_or kept i 0 in let y = get_or piece j 0 in
    rising (drop i kept ++ drop j piece) ≡ min x y ∷ rising (drop (i + bool_byte (leb x y)) kept ++ drop (j + bool_byte (leb y x)) piece)
walk_step kept piece i j kept_up piece_up i_inside j_inside =
    let x = get_or kept i 0 in
    let y = get_or piece j 0 in
    let a = drop-cons kept i 0 i_inside in
    let b = drop-cons piece j 0 j_inside in
    rw (← drop-drop (bool_byte (leb x y)) i kept, ← drop-drop (bool_byte (leb y x)) j piece, a, b)
    (heads_step x y (drop (suc i) kept) (drop (suc j) piece) (rest_rises kept i kept_up i_inside) (rest_rises piece j piece_up j_inside))

-- ---- a run

-- the head of the first list goes if it is below that of the other
first_below : (kept piece : List ℕ) (i j : ℕ) → IsStrictlyIncreasing kept → IsStrictlyIncreasing piece → i < length kept → j < length piece → get_or kept i 0 < get_or piece j 0
    → rising (drop i kept ++ drop j piece) ≡ get_or kept i 0 ∷ rising (drop (i + 1) kept ++ drop j piece)
first_below kept piece i j kept_up piece_up i_inside j_inside less =
    let x = get_or kept i 0 in
    let y = get_or piece j 0 in
    let here : leb x y ≡ true = grind (arith, nat_tests) in
    let there : leb y x ≡ false = grind (arith, nat_tests) in
    let least : min x y ≡ x = omega (arith, less) in
    let stays : j + 0 ≡ j = omega arith in
    let whole = rising (drop i kept ++ drop j piece) in
    let step = subst (λ (b : Bool). whole ≡ min x y ∷ rising (drop (i + bool_byte b) kept ++ drop (j + bool_byte (leb y x)) piece)) here (walk_step kept piece i j kept_up piece_up i_inside j_inside) in
    let step' = subst (λ (b : Bool). whole ≡ min x y ∷ rising (drop (i + 1) kept ++ drop (j + bool_byte b) piece)) there step in
    subst (λ (n : ℕ). whole ≡ x ∷ rising (drop (i + 1) kept ++ drop n piece)) stays (subst (λ (n : ℕ). whole ≡ n ∷ rising (drop (i + 1) kept ++ drop (j + 0) piece)) least step')

-- so do the next ones that are below it
all_below : (kept piece : List ℕ) (i n j : ℕ) → IsStrictlyIncreasing kept → IsStrictlyIncreasing piece → i + n ≤ length kept → j < length piece → ((m : ℕ) → i ≤ m → m < i + n → get_or kept m 0 < get_or piece j 0)
    → rising (drop i kept ++ drop j piece) ≡ take n (drop i kept) ++ rising (drop (i + n) kept ++ drop j piece)
all_below kept piece i zero j kept_up piece_up inside j_inside below =
    let same : i ≡ i + 0 = omega arith in ap (λ (m : ℕ). rising (drop m kept ++ drop j piece)) same
all_below kept piece i (suc n) j kept_up piece_up inside j_inside below =
    let here : i < length kept = omega (arith, inside) in
    let place : i + 1 + n ≡ i + suc n = omega arith in
    let next : i + 1 ≡ suc i = omega arith in
    let rest = all_below kept piece (i + 1) n j kept_up piece_up (omega (arith, inside)) j_inside (λ m low high. below m (omega (arith, low)) (omega (arith, high))) in
    let left : List ℕ = rising (drop (i + suc n) kept ++ drop j piece) in
    first_below kept piece i j kept_up piece_up here j_inside (below i (omega arith) (omega arith))
    ∙ ap (λ (l : List ℕ). get_or kept i 0 ∷ l) (rest ∙ ap (λ (m : ℕ). take n (drop (i + 1) kept) ++ rising (drop m kept ++ drop j piece)) place)
    ∙ ap (λ (m : ℕ). take (suc n) (get_or kept i 0 ∷ drop m kept) ++ left) next
    ∙ ap (λ (l : List ℕ). take (suc n) l ++ left) (sym (drop-cons kept i 0 here))

pub run_below : (kept piece : List ℕ) (i to j : ℕ) → IsStrictlyIncreasing kept → IsStrictlyIncreasing piece → i ≤ to → to ≤ length kept → j < length piece → ((m : ℕ) → i ≤ m → m < to → get_or kept m 0 < get_or piece j 0)
    → rising (drop i kept ++ drop j piece) ≡ slice_range kept i to ++ rising (drop to kept ++ drop j piece)
run_below kept piece i to j kept_up piece_up order inside j_inside below =
    let place : i + (to - i) ≡ to = omega (arith, order) in
    all_below kept piece i (to - i) j kept_up piece_up (omega (arith, inside, place)) j_inside (λ m low high. below m low (omega (arith, high, place)))
    ∙ ap (λ (m : ℕ). slice_range kept i to ++ rising (drop m kept ++ drop j piece)) place

-- the head of the second list goes if it is not above that of the first, which goes with it if it is the same
pub second_goes : (kept piece : List ℕ) (i j : ℕ) (same : Bool) → IsStrictlyIncreasing kept → IsStrictlyIncreasing piece → i < length kept → j < length piece → get_or piece j 0 ≤ get_or kept i 0
    → (same ≡ true → get_or kept i 0 ≡ get_or piece j 0) → (same ≡ false → get_or kept i 0 ≢ get_or piece j 0)
    → rising (drop i kept ++ drop j piece) ≡ get_or piece j 0 ∷ rising (drop (i + bool_byte same) kept ++ drop (j + 1) piece)
second_goes kept piece i j same kept_up piece_up i_inside j_inside most equal other =
    let x = get_or kept i 0 in
    let y = get_or piece j 0 in
    let there : leb y x ≡ true = grind (arith, nat_tests) in
    let least : min x y ≡ y = omega (arith, most) in
    let whole = rising (drop i kept ++ drop j piece) in
    let here : leb x y ≡ same = by same equal other in
    let step = subst (λ (b : Bool). whole ≡ min x y ∷ rising (drop (i + bool_byte b) kept ++ drop (j + bool_byte (leb y x)) piece)) here (walk_step kept piece i j kept_up piece_up i_inside j_inside) in
    let step' = subst (λ (b : Bool). whole ≡ min x y ∷ rising (drop (i + bool_byte same) kept ++ drop (j + bool_byte b) piece)) there step in
    subst (λ (n : ℕ). whole ≡ n ∷ rising (drop (i + bool_byte same) kept ++ drop (j + 1) piece)) least step'
  where
    by : (b : Bool) → (b ≡ true → get_or kept i 0 ≡ get_or piece j 0) → (b ≡ false → get_or kept i 0 ≢ get_or piece j 0) → leb (get_or kept i 0) (get_or piece j 0) ≡ b
    by true equal other = let is = equal refl in grind (arith, nat_tests)
    by false equal other = let not = other refl in grind (arith, nat_tests)

-- ---- the end

pub to_the_end : (xs : List ℕ) (i : ℕ) → i ≤ length xs → take (length xs - i) (drop i xs) ≡ drop i xs
to_the_end xs i inside = take_all (length xs - i) (drop i xs) (omega (arith, length-drop i xs))

-- the walk ends at k members, or where one of both has none left
pub walk_ends : (k : ℕ) (taken a b whole : List ℕ) → rising whole ≡ taken ++ rising (a ++ b) → length taken ≤ k → IsStrictlyIncreasing a → IsStrictlyIncreasing b
    → (k ≤ length taken) ⊎ ((a ≡ []) ⊎ (b ≡ [])) → take k (take k (taken ++ a) ++ b) ≡ k_smallest k whole
unfolding k_smallest
walk_ends k taken a b whole rest most a_up b_up (inl full) =
    let same : length taken ≡ k = omega (arith, full, most) in
    ap (λ l. take k (l ++ b)) (take_at taken a k same) ∙ take_at taken b k same ∙ sym (take_at taken (rising (a ++ b)) k same) ∙ ap (λ l. take k l) (sym rest)
walk_ends k taken a b whole rest most a_up b_up (inr (inl none)) =
    let few : take k (taken ++ a) ≡ taken = ap (λ l. take k (taken ++ l)) none ∙ ap (λ l. take k l) (append-nil taken) ∙ take_all k taken most in
    let others : rising (a ++ b) ≡ b = ap (λ l. rising (l ++ b)) none ∙ rising_of_increasing b b_up in
    ap (λ l. take k (l ++ b)) few ∙ ap (λ l. take k (taken ++ l)) (sym others) ∙ ap (λ l. take k l) (sym rest)
walk_ends k taken a b whole rest most a_up b_up (inr (inr none)) =
    let others : rising (a ++ b) ≡ a = ap (λ l. rising (a ++ l)) none ∙ ap rising (append-nil a) ∙ rising_of_increasing a a_up in
    ap (λ l. take k (take k (taken ++ a) ++ l)) none ∙ ap (λ l. take k l) (append-nil (take k (taken ++ a))) ∙ take-take k k (taken ++ a) (omega arith)
    ∙ ap (λ l. take k (taken ++ l)) (sym others) ∙ ap (λ l. take k l) (sym rest)
