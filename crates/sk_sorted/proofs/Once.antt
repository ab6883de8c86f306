-- Sorted numbers, each written once.
use Rattle.std.proofs.Common.{◌≡◌, ℕ, zero, suc, ◌+◌, ◌<◌, ◌≤◌, Bool, true, false, ltb, cond, inl, inr, List, [], ◌∷◌, ◌++◌, length, take, set, get_or, refl, sym, ap, ◌∙◌, subst, arith, append-nil, get_or-take, length-take-le}
use Rattle.std.specs.List.Sorted.{IsNonDecreasing}
use Rattle.std.proofs.lemmas.Bool.Decides.{nat_tests}
use Rattle.std.proofs.lemmas.List.{take-set}
use Rattle.std.proofs.Math.Seq.{take-suc-set}
use Rattle.sk_model.specs.Sketch.{rising, placed}
use Rattle.sk_model.specs.Width.{AreItems}
use Rattle.sk_model.proofs.Rising.{RisesFrom, RisesFrom-member, Has, placed_by, placed-nil}
use Rattle.sk_model.proofs.Sketch.{RisesFrom-rising, Has-rising, rising-has, rising_more}
use mir.Val.{bool_byte}

-- ---- a number in its place at the end

placed_last : (h : ℕ) (xs : List ℕ) → ((z : ℕ) → Has xs z → z < h) → placed h xs ≡ xs ++ h ∷ []
placed_last h [] below = placed-nil h
placed_last h (x ∷ xs) below =
    let less : x < h = below x (inl refl) in
    placed_by (λ l. l ≡ x ∷ (xs ++ h ∷ [])) h x xs (λ lt. absurd (omega arith)) (λ eq. absurd (omega arith)) (λ gt. ap (λ l. x ∷ l) (placed_last h xs (λ z g. below z (inr g))))

placed_member : (b h : ℕ) (xs : List ℕ) → RisesFrom b xs → Has xs h → placed h xs ≡ xs
placed_member b h [] up has = absurd has
placed_member b h (x ∷ xs) up (inl is) = placed_by (λ l. l ≡ x ∷ xs) h x xs (λ lt. absurd (omega (arith, is))) (λ eq. refl) (λ gt. absurd (omega (arith, is)))
placed_member b h (x ∷ xs) up (inr has) =
    let above : suc x ≤ h = RisesFrom-member (suc x) xs h up.1 has in
    placed_by (λ l. l ≡ x ∷ xs) h x xs (λ lt. absurd (omega arith)) (λ eq. refl) (λ gt. ap (λ l. x ∷ l) (placed_member (suc x) h xs up.1 has))

-- ---- one more of a sorted list

Has-at : (xs : List ℕ) (i : ℕ) → i < length xs → Has xs (get_or xs i 0)
Has-at [] i inside = absurd (omega arith)
Has-at (x ∷ xs) zero inside = inl refl
Has-at (x ∷ xs) (suc i) inside = inr (Has-at xs i (omega arith))

has_place : (xs : List ℕ) (z : ℕ) → Has xs z → (i : ℕ) × (i < length xs) × (get_or xs i 0 ≡ z)
has_place [] z h = absurd h
has_place (x ∷ xs) z (inl is) = (zero, omega arith, is)
has_place (x ∷ xs) z (inr h) = let p = has_place xs z h in (suc p.0, omega (arith, p.1), p.2)

at_most_last : (sorted : List ℕ) (i : ℕ) → i ≤ length sorted → IsNonDecreasing sorted → (z : ℕ) → Has (take i sorted) z → z ≤ get_or (0 ∷ sorted) i 0
at_most_last sorted zero inside order z h = absurd h
at_most_last sorted (suc j) inside order z h =
    let p = has_place (take (suc j) sorted) z h in
    let near : p.0 < suc j = omega (arith, p.1, length-take-le (suc j) sorted inside) in
    omega (arith, order p.0 j 0 (omega (arith, near)) (omega (arith, inside)), p.2, get_or-take (suc j) sorted p.0 0 near)

-- one that is not above the last came before
came_before : (sorted : List ℕ) (i : ℕ) → i < length sorted → AreItems sorted → IsNonDecreasing sorted → get_or sorted i 0 ≤ get_or (0 ∷ sorted) i 0 → Has (take i sorted) (get_or sorted i 0)
came_before sorted zero inside items order le = absurd (omega (arith, le, (items 0 0 inside).0))
came_before sorted (suc j) inside items order le =
    let same : get_or sorted j 0 ≡ get_or sorted (suc j) 0 = omega (arith, le, order j (suc j) 0 (omega arith) inside) in
    subst (λ n. Has (take (suc j) sorted) n) (get_or-take (suc j) sorted j 0 (omega arith) ∙ same)
    (Has-at (take (suc j) sorted) j (omega (arith, length-take-le (suc j) sorted (omega arith))))

once_more : (sorted : List ℕ) (i : ℕ) → i < length sorted → AreItems sorted → IsNonDecreasing sorted
    → rising (take i sorted) ++ cond (ltb (get_or (0 ∷ sorted) i 0) (get_or sorted i 0)) (get_or sorted i 0 ∷ []) [] ≡ rising (take (i + 1) sorted)
once_more sorted i inside items order =
    by_test (ltb last h) (λ is. grind (arith, nat_tests)) (λ is. grind (arith, nat_tests)) ∙ sym (rising_more sorted i 0 inside)
  where
    last : ℕ
    last = get_or (0 ∷ sorted) i 0

    h : ℕ
    h = get_or sorted i 0

    before : List ℕ
    before = rising (take i sorted)

    by_test : (b : Bool) → (b ≡ true → last < h) → (b ≡ false → h ≤ last) → before ++ cond b (h ∷ []) [] ≡ placed h before
    by_test true above not = sym (placed_last h before (λ z g. omega (arith, above refl, at_most_last sorted i (omega arith) order z (Has-rising (take i sorted) z g))))
    by_test false above not = append-nil before ∙ sym (placed_member 0 h before (RisesFrom-rising (take i sorted)) (rising-has (take i sorted) h (came_before sorted i inside items order (not refl))))

-- ---- one more that is written

written : (once : List ℕ) (count h : ℕ) (b : Bool) → count < length once → take (count + bool_byte b) (set once count h) ≡ take count once ++ cond b (h ∷ []) []
written once count h true inside =
    let e : count + 1 ≡ suc count = omega arith in ap (λ n. take n (set once count h)) e ∙ take-suc-set once count h inside
written once count h false inside =
    let e : count + 0 ≡ count = omega arith in ap (λ n. take n (set once count h)) e ∙ take-set once count h ∙ sym (append-nil (take count once))

pub write_step : (sorted once : List ℕ) (i count : ℕ) → i < length sorted → count < length once → AreItems sorted → IsNonDecreasing sorted → take count once ≡ rising (take i sorted)
    → let h = get_or sorted i 0 in take (count + bool_byte (ltb (get_or (0 ∷ sorted) i 0) h)) (set once count h) ≡ rising (take (i + 1) sorted)
write_step sorted once i count inside room items order so_far =
    let h = get_or sorted i 0 in
    let b = ltb (get_or (0 ∷ sorted) i 0) h in
    written once count h b room ∙ ap (λ l. l ++ cond b (h ∷ []) []) so_far ∙ once_more sorted i inside items order

pub at_most_one : (b : Bool) → bool_byte b ≤ 1
at_most_one true = omega arith
at_most_one false = omega arith

pub last_is : (sorted : List ℕ) (i : ℕ) → get_or sorted i 0 ≡ get_or (0 ∷ sorted) (i + 1) 0
last_is sorted i = let e : suc i ≡ i + 1 = omega arith in ap (λ n. get_or (0 ∷ sorted) n 0) e
