-- Lists in which no number stands twice.
use Rattle.std.proofs.Common.{◌≡◌, ℕ, true, false, eqb, nat_eq, List, [], ◌∷◌, ◌++◌, All, inl, inr, ⊎_elim, refl, sym, ◌∙◌, arith, eq-eqb, ne_eqb, append-nil}
use Rattle.std.specs.List.{IsDistinct, AllByRecursion}
use Rattle.std.specs.List.Sorted.{IsPermutation}
use Rattle.std.proofs.lemmas.Bool.Decides.{nat_tests}
use Rattle.std.proofs.lemmas.List.Elements.{All-weaker, All-contains_itself}
use Rattle.std.proofs.lemmas.List.Sorted.{IsPermutation-refl, IsPermutation-sym, IsPermutation-trans, IsPermutation-cons, IsPermutation-append_left, IsPermutation-middle, Contains-permutation}
use Rattle.std.proofs.lemmas.Map.Keys.{IsDistinct-head, IsDistinct-tail, IsDistinct-cons, IsDistinct-IsPermutation}
use Rattle.sk_model.specs.Sketch.{placed, rising}
use Rattle.sk_model.proofs.Rising.{Has, Has-from_Contains, Contains-from_Has, Has-placed, placed_by, placed-nil, all_placed}

pub Has-permutation : (xs ys : List ℕ) (z : ℕ) → IsPermutation xs ys → Has xs z → Has ys z
Has-permutation xs ys z moved h = Has-from_Contains ys z (Contains-permutation xs ys z moved (Contains-from_Has xs z h))

pub All-from_Has : (P : ℕ → Type 0) (xs : List ℕ) → ((z : ℕ) → Has xs z → P z) → All P xs
All-from_Has P xs each = All-weaker (λ z. Has xs z) P each xs (λ i d inside. Has-from_Contains xs _ (All-contains_itself xs i d inside))

none_equal : (h : ℕ) (xs : List ℕ) → AllByRecursion (λ y. eqb h y ≡ false) xs → Has xs h → ⊥
none_equal h [] all g = g
none_equal h (x ∷ xs) all (inl is) = let two : true ≡ false = sym (eq-eqb h x (sym is)) ∙ all.0 in cc
none_equal h (x ∷ xs) all (inr g) = none_equal h xs all.1 g

all_differ : (h : ℕ) (xs : List ℕ) → (Has xs h → ⊥) → AllByRecursion (λ y. eqb h y ≡ false) xs
all_differ h [] not = tt
all_differ h (x ∷ xs) not = (ne_eqb h x (λ same. not (inl (sym same))), all_differ h xs (λ g. not (inr g)))

pub head_once : (h : ℕ) (xs : List ℕ) → IsDistinct nat_eq (h ∷ xs) → Has xs h → ⊥
head_once h xs distinct = none_equal h xs (IsDistinct-head eqb h xs distinct)

pub distinct_more : (h : ℕ) (xs : List ℕ) → (Has xs h → ⊥) → IsDistinct nat_eq xs → IsDistinct nat_eq (h ∷ xs)
distinct_more h xs not distinct = IsDistinct-cons eqb h xs (all_differ h xs not) distinct

pub distinct_moved : (xs ys : List ℕ) → IsPermutation xs ys → IsDistinct nat_eq xs → IsDistinct nat_eq ys
distinct_moved xs ys moved distinct = IsDistinct-IsPermutation eqb (λ x y. grind (arith, nat_tests)) xs ys moved distinct

-- ---- such a list and its rising form have the same members

placed_moves : (h : ℕ) (xs : List ℕ) → (Has xs h → ⊥) → IsPermutation (placed h xs) (h ∷ xs)
placed_moves h [] not = rw placed-nil (IsPermutation-refl (h ∷ []))
placed_moves h (x ∷ xs) not =
    placed_by (λ l. IsPermutation l (h ∷ x ∷ xs)) h x xs
    (λ lt. IsPermutation-refl (h ∷ x ∷ xs))
    (λ eq. absurd (not (inl (sym eq))))
    (λ gt. IsPermutation-trans (x ∷ placed h xs) (x ∷ h ∷ xs) (h ∷ x ∷ xs) (IsPermutation-cons x (placed h xs) (h ∷ xs) (placed_moves h xs (λ g. not (inr g)))) (IsPermutation-middle (x ∷ []) h xs))

all_placed_moves : (kept xs : List ℕ) → IsDistinct nat_eq xs → ((z : ℕ) → Has xs z → Has kept z → ⊥) → IsPermutation (all_placed kept xs) (kept ++ xs)
all_placed_moves kept [] distinct apart = rw append-nil (IsPermutation-refl kept)
all_placed_moves kept (h ∷ xs) distinct apart =
    let new = apart h (inl refl) in
    IsPermutation-trans (all_placed (placed h kept) xs) (placed h kept ++ xs) (kept ++ h ∷ xs)
    (all_placed_moves (placed h kept) xs (IsDistinct-tail eqb h xs distinct) (λ z g p. ⊎_elim (λ same. head_once h xs distinct (rw same g)) (λ p'. apart z (inr g) p') (Has-placed h kept z p)))
    (IsPermutation-trans (placed h kept ++ xs) (h ∷ (kept ++ xs)) (kept ++ h ∷ xs) (IsPermutation-append_left xs (placed h kept) (h ∷ kept) (placed_moves h kept new))
    (IsPermutation-sym (kept ++ h ∷ xs) (h ∷ (kept ++ xs)) (IsPermutation-middle kept h xs)))

pub rising_moves : (xs : List ℕ) → IsDistinct nat_eq xs → IsPermutation (rising xs) xs
unfolding rising
rising_moves xs distinct = all_placed_moves [] xs distinct (λ z g p. p)
