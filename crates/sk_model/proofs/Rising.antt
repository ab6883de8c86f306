-- Lemmas on rising lists, and on a number that is put in its place.
use Rattle.std.proofs.Common.{◌≡◌, ℕ, zero, suc, ◌+◌, ◌<◌, ◌≤◌, Bool, true, false, List, [], ◌∷◌, ◌++◌, length, take, get_or, fold, eqb, ltb, cond, All, Contains, insert, ◌⊎◌, inl, inr, ⊎_elim, refl, sym, ap, ◌∙◌, subst, arith, take-take}
use Rattle.std.specs.List.Sorted.{IsStrictlyIncreasing}
use Rattle.std.proofs.lemmas.Bool.Decides.{nat_tests}
use Rattle.std.proofs.lemmas.List.Elements.{All-nil, All-cons, All-head, All-tail}
use Rattle.sk_model.specs.Sketch.{placed}

-- a rising list whose members are all at least b
abbrev pub RisesFrom : ℕ → List ℕ → Type 0
RisesFrom b [] = Unit {0}
RisesFrom b (x ∷ xs) = (b ≤ x) × RisesFrom (suc x) xs

-- z is a member
abbrev pub Has : List ℕ → ℕ → Type 0
Has [] z = ⊥
Has (x ∷ xs) z = (x ≡ z) ⊎ Has xs z

-- ---- members

Has-at : (xs : List ℕ) (z k : ℕ) → k < length xs → get_or xs k z ≡ z → Has xs z
Has-at [] z k inside is = absurd (omega arith)
Has-at (x ∷ xs) z zero inside is = inl is
Has-at (x ∷ xs) z (suc k) inside is = inr (Has-at xs z k (omega arith) is)

pub Has-from_Contains : (xs : List ℕ) (z : ℕ) → Contains xs z → Has xs z
Has-from_Contains xs z h = Has-at xs z h.0 h.1 h.2

pub Contains-from_Has : (xs : List ℕ) (z : ℕ) → Has xs z → Contains xs z
Contains-from_Has [] z h = absurd h
Contains-from_Has (x ∷ xs) z (inl is) = (zero, omega arith, is)
Contains-from_Has (x ∷ xs) z (inr h) = let c = Contains-from_Has xs z h in (suc c.0, omega (arith, c.1), c.2)

pub Has-take : (k : ℕ) (xs : List ℕ) (z : ℕ) → Has (take k xs) z → Has xs z
Has-take zero xs z h = absurd h
Has-take (suc k) [] z h = h
Has-take (suc k) (x ∷ xs) z (inl is) = inl is
Has-take (suc k) (x ∷ xs) z (inr h) = inr (Has-take k xs z h)

pub Has-append_left : (xs ys : List ℕ) (z : ℕ) → Has xs z → Has (xs ++ ys) z
Has-append_left [] ys z h = absurd h
Has-append_left (x ∷ xs) ys z (inl is) = inl is
Has-append_left (x ∷ xs) ys z (inr h) = inr (Has-append_left xs ys z h)

-- ---- rising lists

RisesFrom-lower : (a b : ℕ) (xs : List ℕ) → a ≤ b → RisesFrom b xs → RisesFrom a xs
RisesFrom-lower a b [] le up = up
RisesFrom-lower a b (x ∷ xs) le up = (omega (arith, up.0), up.1)

pub RisesFrom-take : (b k : ℕ) (xs : List ℕ) → RisesFrom b xs → RisesFrom b (take k xs)
RisesFrom-take b zero xs up = tt
RisesFrom-take b (suc k) [] up = tt
RisesFrom-take b (suc k) (x ∷ xs) up = (up.0, RisesFrom-take (suc x) k xs up.1)

-- member i is at least i above the bound
pub RisesFrom-at : (b : ℕ) (xs : List ℕ) (i : ℕ) → RisesFrom b xs → i < length xs → b + i ≤ get_or xs i 0
RisesFrom-at b [] i up inside = absurd (omega arith)
RisesFrom-at b (x ∷ xs) zero up inside = omega (arith, up.0)
RisesFrom-at b (x ∷ xs) (suc i) up inside = omega (arith, up.0, RisesFrom-at (suc x) xs i up.1 (omega arith))

pub RisesFrom-member : (b : ℕ) (xs : List ℕ) (z : ℕ) → RisesFrom b xs → Has xs z → b ≤ z
RisesFrom-member b [] z up h = absurd h
RisesFrom-member b (x ∷ xs) z up (inl is) = omega (arith, up.0)
RisesFrom-member b (x ∷ xs) z up (inr h) = omega (arith, up.0, RisesFrom-member (suc x) xs z up.1 h)

at_next : (x k : ℕ) (xs : List ℕ) → get_or (x ∷ xs) (suc k + 1) 0 ≡ get_or xs (k + 1) 0
at_next x k xs = let e : suc k + 1 ≡ suc (k + 1) = omega arith in ap (λ (n : ℕ). get_or (x ∷ xs) n 0) e

pub increasing_from_RisesFrom : (b : ℕ) (xs : List ℕ) → RisesFrom b xs → IsStrictlyIncreasing xs
increasing_from_RisesFrom b [] up k inside = absurd (omega arith)
increasing_from_RisesFrom b (x ∷ []) up k inside = absurd (omega arith)
increasing_from_RisesFrom b (x ∷ y ∷ xs) up zero inside = up.1.0
increasing_from_RisesFrom b (x ∷ y ∷ xs) up (suc k) inside =
    let more : get_or (y ∷ xs) k 0 < get_or (y ∷ xs) (k + 1) 0 = increasing_from_RisesFrom (suc x) (y ∷ xs) up.1 k (omega arith) in
    rw (at_next x k (y ∷ xs)) more

RisesFrom-first : (b x : ℕ) (xs : List ℕ) → b ≤ x → IsStrictlyIncreasing (x ∷ xs) → RisesFrom b (x ∷ xs)
RisesFrom-first b x [] le up = (le, tt)
RisesFrom-first b x (y ∷ xs) le up = (le, RisesFrom-first (suc x) y xs (up 0 (omega arith)) (λ k inside. rw (at_next x k (y ∷ xs)) at (up (suc k) (omega arith))))

pub RisesFrom-increasing : (xs : List ℕ) → IsStrictlyIncreasing xs → RisesFrom 0 xs
RisesFrom-increasing [] up = tt
RisesFrom-increasing (x ∷ xs) up = RisesFrom-first 0 x xs (omega arith) up

-- rising lists with the same members are one
pub same_rising : (b c : ℕ) (xs ys : List ℕ) → RisesFrom b xs → RisesFrom c ys → ((z : ℕ) → Has xs z → Has ys z) → ((z : ℕ) → Has ys z → Has xs z) → xs ≡ ys
same_rising b c [] [] up up' to from = refl
same_rising b c [] (y ∷ ys) up up' to from = absurd (from y (inl refl))
same_rising b c (x ∷ xs) [] up up' to from = absurd (to x (inl refl))
same_rising b c (x ∷ xs) (y ∷ ys) up up' to from =
    let first : x ≡ y = heads x y xs ys up.1 up'.1 (to x (inl refl)) (from y (inl refl)) in
    ap (λ (n : ℕ). n ∷ xs) first
    ∙ ap (λ (l : List ℕ). y ∷ l) (same_rising (suc x) (suc y) xs ys up.1 up'.1 (λ z h. rest x y z ys xs (sym first) up.1 h (to z (inr h))) (λ z h. rest y x z xs ys first up'.1 h (from z (inr h))))
  where
    heads : (x y : ℕ) (xs ys : List ℕ) → RisesFrom (suc x) xs → RisesFrom (suc y) ys → Has (y ∷ ys) x → Has (x ∷ xs) y → x ≡ y
    heads x y xs ys up up' (inl is) h = sym is
    heads x y xs ys up up' (inr g) (inl is) = is
    heads x y xs ys up up' (inr g) (inr h) = omega (arith, RisesFrom-member (suc y) ys x up' g, RisesFrom-member (suc x) xs y up h)

    rest : (x y z : ℕ) (ys xs : List ℕ) → y ≡ x → RisesFrom (suc x) xs → Has xs z → Has (y ∷ ys) z → Has ys z
    rest x y z ys xs same up h (inl is) = absurd (omega (arith, RisesFrom-member (suc x) xs z up h))
    rest x y z ys xs same up h (inr g) = g

-- a member is among the first k, or these are k and below it
pub among_the_least : (k b : ℕ) (xs : List ℕ) (z : ℕ) → RisesFrom b xs → Has xs z → Has (take k xs) z ⊎ ((length (take k xs) ≡ k) × All (λ y. y < z) (take k xs))
among_the_least zero b xs z up h = inr (refl, All-nil (λ y. y < z))
among_the_least (suc k) b [] z up h = absurd h
among_the_least (suc k) b (x ∷ xs) z up (inl is) = inl (inl is)
among_the_least (suc k) b (x ∷ xs) z up (inr h) =
    ⊎_elim (λ g. inl (inr g))
    (λ p. inr (omega (arith, p.0), All-cons (λ y. y < z) x (take k xs) (RisesFrom-member (suc x) xs z up.1 h) p.1))
    (among_the_least k (suc x) xs z up.1 h)

-- the least of a rising list are its first k
pub take_is_least : (k b c : ℕ) (xs ys : List ℕ) → RisesFrom b xs → RisesFrom c ys → length xs ≤ k → ((z : ℕ) → Has xs z → Has ys z) → ((z : ℕ) → Has ys z → Has xs z ⊎ ((length xs ≡ k) × All (λ y. y < z) xs)) → take k ys ≡ xs
take_is_least zero b c [] ys up up' most to from = refl
take_is_least zero b c (x ∷ xs) ys up up' most to from = absurd (omega arith)
take_is_least (suc k) b c [] [] up up' most to from = refl
take_is_least (suc k) b c [] (y ∷ ys) up up' most to from = ⊎_elim (λ h. absurd h) (λ p. absurd (omega (arith, p.0))) (from y (inl refl))
take_is_least (suc k) b c (x ∷ xs) [] up up' most to from = absurd (to x (inl refl))
take_is_least (suc k) b c (x ∷ xs) (y ∷ ys) up up' most to from =
    let first : x ≡ y = heads (to x (inl refl)) (from y (inl refl)) in
    ap (λ (n : ℕ). n ∷ take k ys) (sym first)
    ∙ ap (λ (l : List ℕ). x ∷ l) (take_is_least k (suc x) (suc y) xs ys up.1 up'.1 (omega arith) (λ z h. inner first z h (to z (inr h))) (λ z h. outer first z h (from z (inr h))))
  where
    heads : Has (y ∷ ys) x → Has (x ∷ xs) y ⊎ ((suc (length xs) ≡ suc k) × All (λ n. n < y) (x ∷ xs)) → x ≡ y
    heads (inl is) g = sym is
    heads (inr h) (inl (inl is)) = is
    heads (inr h) (inl (inr g)) = omega (arith, RisesFrom-member (suc y) ys x up'.1 h, RisesFrom-member (suc x) xs y up.1 g)
    heads (inr h) (inr p) = omega (arith, RisesFrom-member (suc y) ys x up'.1 h, All-head (λ n. n < y) x xs p.1)

    inner : x ≡ y → (z : ℕ) → Has xs z → Has (y ∷ ys) z → Has ys z
    inner same z h (inl is) = absurd (omega (arith, RisesFrom-member (suc x) xs z up.1 h))
    inner same z h (inr g) = g

    outer : x ≡ y → (z : ℕ) → Has ys z → Has (x ∷ xs) z ⊎ ((suc (length xs) ≡ suc k) × All (λ n. n < z) (x ∷ xs)) → Has xs z ⊎ ((length xs ≡ k) × All (λ n. n < z) xs)
    outer same z h (inl (inl is)) = absurd (omega (arith, RisesFrom-member (suc y) ys z up'.1 h))
    outer same z h (inl (inr g)) = inl g
    outer same z h (inr p) = inr (omega (arith, p.0), All-tail (λ n. n < z) x xs p.1)

-- all members of a rising list are at most the last
pub all_to_last : (b h i : ℕ) (xs : List ℕ) → RisesFrom b xs → suc i ≡ length xs → get_or xs i 0 ≤ h → All (λ y. y ≤ h) xs
all_to_last b h i [] up last le = absurd (omega arith)
all_to_last b h zero (x ∷ []) up last le = All-cons (λ y. y ≤ h) x [] le (All-nil (λ y. y ≤ h))
all_to_last b h zero (x ∷ y ∷ xs) up last le = absurd (omega arith)
all_to_last b h (suc i) (x ∷ xs) up last le =
    All-cons (λ y. y ≤ h) x xs (omega (arith, RisesFrom-at (suc x) xs i up.1 (omega arith))) (all_to_last (suc x) h i xs up.1 (omega arith) le)

-- ---- a number in its place

-- what holds in the three cases holds of the list
pub placed_by : (P : List ℕ → Type 0) (h x : ℕ) (xs : List ℕ) → (h < x → P (h ∷ x ∷ xs)) → (h ≡ x → P (x ∷ xs)) → (x < h → P (x ∷ placed h xs)) → P (placed h (x ∷ xs))
unfolding placed
placed_by P h x xs before at behind = by_lt (ltb h x) (eqb h x) (λ is. before (grind (arith, nat_tests))) (λ is. at (grind (arith, nat_tests))) (λ no not. behind (grind (arith, nat_tests)))
  where
    by_lt : (lt eq : Bool) → (lt ≡ true → P (h ∷ x ∷ xs)) → (eq ≡ true → P (x ∷ xs)) → (lt ≡ false → eq ≡ false → P (x ∷ placed h xs)) → P (cond lt (h ∷ x ∷ xs) (cond eq (x ∷ xs) (x ∷ placed h xs)))
    by_lt true eq first second third = first refl
    by_lt false true first second third = second refl
    by_lt false false first second third = third refl refl

pub placed-nil : (h : ℕ) → placed h [] ≡ h ∷ []
unfolding placed
placed-nil h = refl

pub RisesFrom-placed : (b h : ℕ) (xs : List ℕ) → RisesFrom b xs → b ≤ h → RisesFrom b (placed h xs)
RisesFrom-placed b h [] up le = rw placed-nil (le, tt)
RisesFrom-placed b h (x ∷ xs) up le =
    placed_by (RisesFrom b) h x xs (λ lt. (le, (lt, up.1))) (λ eq. up) (λ gt. (up.0, RisesFrom-placed (suc x) h xs up.1 gt))

pub Has-placed : (h : ℕ) (xs : List ℕ) (z : ℕ) → Has (placed h xs) z → (h ≡ z) ⊎ Has xs z
Has-placed h [] z = rw placed-nil (λ g. g)
Has-placed h (x ∷ xs) z = placed_by (λ l. Has l z → (h ≡ z) ⊎ Has (x ∷ xs) z) h x xs (λ lt g. g) (λ eq g. inr g) (λ gt. ⊎_elim (λ is. inr (inl is)) (λ g. ⊎_elim (λ is. inl is) (λ g'. inr (inr g')) (Has-placed h xs z g)))

pub placed-has : (h : ℕ) (xs : List ℕ) → Has (placed h xs) h
placed-has h [] = rw placed-nil (inl refl)
placed-has h (x ∷ xs) = placed_by (λ l. Has l h) h x xs (λ lt. inl refl) (λ eq. inl (sym eq)) (λ gt. inr (placed-has h xs))

pub placed-keeps : (h : ℕ) (xs : List ℕ) (z : ℕ) → Has xs z → Has (placed h xs) z
placed-keeps h [] z g = absurd g
placed-keeps h (x ∷ xs) z g =
    placed_by (λ l. Has l z) h x xs (λ lt. inr g) (λ eq. g) (λ gt. ⊎_elim (λ is. inl is) (λ g'. inr (placed-keeps h xs z g')) g)

pub length-placed : (h : ℕ) (xs : List ℕ) → length xs ≤ length (placed h xs)
length-placed h [] = omega arith
length-placed h (x ∷ xs) = placed_by (λ l. suc (length xs) ≤ length l) h x xs (λ lt. omega arith) (λ eq. omega arith) (λ gt. omega (arith, length-placed h xs))

-- no member grows
pub placed-at_most : (b h : ℕ) (xs : List ℕ) (i : ℕ) → RisesFrom b xs → i < length xs → get_or (placed h xs) i 0 ≤ get_or xs i 0
placed-at_most b h [] i up inside = absurd (omega arith)
placed-at_most b h (x ∷ xs) zero up inside = placed_by (λ l. get_or l 0 0 ≤ x) h x xs (λ lt. omega arith) (λ eq. omega arith) (λ gt. omega arith)
placed-at_most b h (x ∷ xs) (suc i) up inside =
    let e : i + 1 ≡ suc i = omega arith in
    let more : get_or (x ∷ xs) i 0 < get_or (x ∷ xs) (suc i) 0 = rw e at (increasing_from_RisesFrom b (x ∷ xs) up i (omega arith)) in
    placed_by (λ l. get_or l (suc i) 0 ≤ get_or xs i 0) h x xs (λ lt. omega arith) (λ eq. omega arith) (λ gt. placed-at_most (suc x) h xs i up.1 (omega arith))

-- what lies past the first k changes nothing of the first k
pub take-placed : (k h : ℕ) (xs : List ℕ) → take k (placed h (take k xs)) ≡ take k (placed h xs)
unfolding placed
take-placed zero h [] = refl
take-placed (suc k) h [] = refl
take-placed zero h (x ∷ xs) = refl
take-placed (suc k) h (x ∷ xs) =
    elim (ltb h x) as (λ b. take (suc k) (cond b (h ∷ x ∷ take k xs) (cond (eqb h x) (x ∷ take k xs) (x ∷ placed h (take k xs)))) ≡ take (suc k) (cond b (h ∷ x ∷ xs) (cond (eqb h x) (x ∷ xs) (x ∷ placed h xs)))) [
      | true ↦ ap (λ (l : List ℕ). h ∷ l) (behind k)
      | false ↦
          elim (eqb h x) as (λ b. take (suc k) (cond b (x ∷ take k xs) (x ∷ placed h (take k xs))) ≡ take (suc k) (cond b (x ∷ xs) (x ∷ placed h xs))) [
            | true ↦ ap (λ (l : List ℕ). x ∷ l) (take-take k k xs (omega arith))
            | false ↦ ap (λ (l : List ℕ). x ∷ l) (take-placed k h xs)
          ]
    ]
  where
    behind : (k : ℕ) → take k (x ∷ take k xs) ≡ take k (x ∷ xs)
    behind zero = refl
    behind (suc k) = ap (λ (l : List ℕ). x ∷ l) (take-take k (suc k) xs (omega arith))

-- a number that no member is above leaves the prefix as it was
pub placed-idle : (h : ℕ) (xs : List ℕ) → All (λ y. y ≤ h) xs → take (length xs) (placed h xs) ≡ xs
placed-idle h [] all = refl
placed-idle h (x ∷ xs) all =
    let low : x ≤ h = All-head (λ y. y ≤ h) x xs all in
    placed_by (λ l. take (suc (length xs)) l ≡ x ∷ xs) h x xs (λ lt. absurd (omega arith)) (λ eq. take_all' (x ∷ xs)) (λ gt. ap (λ (l : List ℕ). x ∷ l) (placed-idle h xs (All-tail (λ y. y ≤ h) x xs all)))
  where
    take_all' : (xs : List ℕ) → take (length xs) xs ≡ xs
    take_all' [] = refl
    take_all' (x ∷ xs) = ap (λ (l : List ℕ). x ∷ l) (take_all' xs)

-- ---- many numbers in their places

abbrev pub all_placed : List ℕ → List ℕ → List ℕ
all_placed kept hashes = fold (λ kept h. placed h kept) kept hashes

pub RisesFrom-all_placed : (kept hashes : List ℕ) → RisesFrom 0 kept → RisesFrom 0 (all_placed kept hashes)
RisesFrom-all_placed kept [] up = up
RisesFrom-all_placed kept (h ∷ hashes) up = RisesFrom-all_placed (placed h kept) hashes (RisesFrom-placed 0 h kept up (omega arith))

pub Has-all_placed : (kept hashes : List ℕ) (z : ℕ) → Has (all_placed kept hashes) z → Has kept z ⊎ Has hashes z
Has-all_placed kept [] z g = inl g
Has-all_placed kept (h ∷ hashes) z g =
    ⊎_elim (λ p. ⊎_elim (λ is. inr (inl is)) (λ q. inl q) (Has-placed h kept z p)) (λ p. inr (inr p)) (Has-all_placed (placed h kept) hashes z g)

pub all_placed-keeps : (kept hashes : List ℕ) (z : ℕ) → Has kept z → Has (all_placed kept hashes) z
all_placed-keeps kept [] z g = g
all_placed-keeps kept (h ∷ hashes) z g = all_placed-keeps (placed h kept) hashes z (placed-keeps h kept z g)

pub all_placed-has : (kept hashes : List ℕ) (z : ℕ) → Has hashes z → Has (all_placed kept hashes) z
all_placed-has kept [] z g = absurd g
all_placed-has kept (h ∷ hashes) z (inl is) = all_placed-keeps (placed h kept) hashes z (subst (λ n. Has (placed h kept) n) is (placed-has h kept))
all_placed-has kept (h ∷ hashes) z (inr g) = all_placed-has (placed h kept) hashes z g

pub length-all_placed : (kept hashes : List ℕ) → length kept ≤ length (all_placed kept hashes)
length-all_placed kept [] = omega arith
length-all_placed kept (h ∷ hashes) = omega (arith, length-placed h kept, length-all_placed (placed h kept) hashes)

pub all_placed-at_most : (kept hashes : List ℕ) (i : ℕ) → RisesFrom 0 kept → i < length kept → get_or (all_placed kept hashes) i 0 ≤ get_or kept i 0
all_placed-at_most kept [] i up inside = omega arith
all_placed-at_most kept (h ∷ hashes) i up inside =
    omega (arith, placed-at_most 0 h kept i up inside, all_placed-at_most (placed h kept) hashes i (RisesFrom-placed 0 h kept up (omega arith)) (omega (arith, length-placed h kept)))

pub take-all_placed : (k : ℕ) (kept hashes : List ℕ) → take k (all_placed (take k kept) hashes) ≡ take k (all_placed kept hashes)
take-all_placed k kept [] = take-take k k kept (omega arith)
take-all_placed k kept (h ∷ hashes) =
    sym (take-all_placed k (placed h (take k kept)) hashes) ∙ ap (λ (l : List ℕ). take k (all_placed l hashes)) (take-placed k h kept) ∙ take-all_placed k (placed h kept) hashes

-- ---- the place of a number among those that rise

-- after those below it, before a greater one or at the end
pub placed-insert : (h : ℕ) (xs : List ℕ) (i : ℕ) → i ≤ length xs → All (λ y. y < h) (take i xs) → (i < length xs → h < get_or xs i 0) → placed h xs ≡ insert xs i h
placed-insert h [] zero le below above = placed-nil h
placed-insert h [] (suc i) le below above = absurd (omega arith)
placed-insert h (x ∷ xs) zero le below above =
    let greater : h < x = above (omega arith) in
    placed_by (λ l. l ≡ h ∷ x ∷ xs) h x xs (λ lt. refl) (λ eq. absurd (omega arith)) (λ gt. absurd (omega arith))
placed-insert h (x ∷ xs) (suc i) le below above =
    let less : x < h = All-head (λ y. y < h) x (take i xs) below in
    placed_by (λ l. l ≡ x ∷ insert xs i h) h x xs (λ lt. absurd (omega arith)) (λ eq. absurd (omega arith)) (λ gt. ap (λ (l : List ℕ). x ∷ l) (placed-insert h xs i (omega arith) (All-tail (λ y. y < h) x (take i xs) below) (λ inside. above (omega arith))))

-- a number that is there already, after those below it
pub placed-there : (h : ℕ) (xs : List ℕ) (i : ℕ) → i < length xs → All (λ y. y < h) (take i xs) → get_or xs i 0 ≡ h → placed h xs ≡ xs
placed-there h [] i inside below is = absurd (omega arith)
placed-there h (x ∷ xs) zero inside below is =
    placed_by (λ l. l ≡ x ∷ xs) h x xs (λ lt. absurd (omega arith)) (λ eq. refl) (λ gt. absurd (omega arith))
placed-there h (x ∷ xs) (suc i) inside below is =
    let less : x < h = All-head (λ y. y < h) x (take i xs) below in
    placed_by (λ l. l ≡ x ∷ xs) h x xs (λ lt. absurd (omega arith)) (λ eq. absurd (omega arith)) (λ gt. ap (λ (l : List ℕ). x ∷ l) (placed-there h xs i (omega arith) (All-tail (λ y. y < h) x (take i xs) below) is))
