-- Two rising lists, walked together until k members are taken.
use Rattle.std.proofs.Common.{◌≡◌, ℕ, suc, ◌+◌, ◌<◌, ◌≤◌, eqb, min, ◌⊎◌, inl, inr, ⊎_elim, None, Some, List, [], ◌∷◌, ◌++◌, length, All, Contains, refl, sym, ◌∙◌, subst, arith, length-append}
use Rattle.std.specs.List.Sorted.{IsStrictlyIncreasing}
use Rattle.std.specs.Prelude.{slice_get}
use Rattle.std.proofs.lemmas.Bool.{cases_Bool, cases_lt, eqb-false}
use Rattle.std.proofs.Common.{eqb-true, eq-eqb}
use Rattle.std.proofs.lemmas.List.Elements.{All-nil, All-head, All-tail, All-push, All-weaker, Contains-append_left, Contains-append_right, Contains-append_cases}
use Rattle.sk_model.specs.Sketch.{k_smallest}
use Rattle.sk_model.proofs.Rising.{RisesFrom, RisesFrom-increasing, RisesFrom-member, Has, Has-from_Contains, Contains-from_Has, increasing_from_RisesFrom}
use Rattle.sk_model.proofs.Sketch.{k_smallest_is}
use Rattle.sk_image.specs.Union.{lesser, without_first}

-- of two lists these are taken, and those are left
pub record IsWalked (taken a b whole : List ℕ) : Type 0 where
  pub from : ℕ
  pub rises : RisesFrom 0 taken
  pub below : All (λ x. x < from) taken
  pub a_rises : RisesFrom from a
  pub b_rises : RisesFrom from b
  pub taken_are : (x : ℕ) → Contains taken x → Contains whole x
  pub a_are : (x : ℕ) → Has a x → Contains whole x
  pub b_are : (x : ℕ) → Has b x → Contains whole x
  pub all : (x : ℕ) → Contains whole x → Contains taken x ⊎ (Has a x ⊎ Has b x)
  pub few : length taken + (length a + length b) ≤ length whole

pub walk_starts : (a b : List ℕ) → IsStrictlyIncreasing a → IsStrictlyIncreasing b → IsWalked [] a b (a ++ b)
walk_starts a b a_rises b_rises = record {
  from = 0;
  rises = tt;
  below = All-nil (λ x. x < 0);
  a_rises = RisesFrom-increasing a a_rises;
  b_rises = RisesFrom-increasing b b_rises;
  taken_are = λ x has. absurd (Has-from_Contains [] x has);
  a_are = λ x has. Contains-append_left a b x (Contains-from_Has a x has);
  b_are = λ x has. Contains-append_right a b x (Contains-from_Has b x has);
  all = λ x has. inr (⊎_elim (λ h. inl (Has-from_Contains a x h)) (λ h. inr (Has-from_Contains b x h)) (Contains-append_cases a b x has));
  few = omega (arith, length-append a b);
}

-- ---- the next one

-- a list begins with this number
Heads : List ℕ → ℕ → Type 0
Heads [] n = ⊥
Heads (x ∷ xs) n = x ≡ n

-- it begins with no lesser one
HeadsFrom : List ℕ → ℕ → Type 0
HeadsFrom [] n = Unit {0}
HeadsFrom (x ∷ xs) n = n ≤ x

IsNext : List ℕ → List ℕ → ℕ → Type 0
IsNext a b next = HeadsFrom a next × HeadsFrom b next × (Heads a next ⊎ Heads b next)

next_is : (a b : List ℕ) (next : ℕ) → lesser (slice_get a 0) (slice_get b 0) ≡ Some next → IsNext a b next
unfolding IsNext Heads HeadsFrom
next_is [] [] next e = absurd cc
next_is [] (y ∷ b) next e = let same : y ≡ next = cc in (tt, omega (arith, same), inr same)
next_is (x ∷ a) [] next e = let same : x ≡ next = cc in (omega (arith, same), tt, inl same)
next_is (x ∷ a) (y ∷ b) next e =
    let same : min x y ≡ next = cc in
    (omega (arith, same), omega (arith, same), ⊎_elim (λ p. inl (omega (arith, same, p))) (λ p. inr (omega (arith, same, p))) (either x y))
  where
    either : (x y : ℕ) → (x ≤ y) ⊎ (y ≤ x)
    either x y = ⊎_elim (λ less. inl (omega (arith, less))) (λ no. inr (omega (arith, no))) (cases_lt x y)

pub none_left : (a b : List ℕ) → lesser (slice_get a 0) (slice_get b 0) ≡ None → (a ≡ []) × (b ≡ [])
none_left [] [] e = (refl, refl)
none_left [] (y ∷ b) e = absurd cc
none_left (x ∷ a) [] e = absurd cc
none_left (x ∷ a) (y ∷ b) e = absurd cc

module _ (next from : ℕ) where
  starts_from : (xs : List ℕ) → RisesFrom from xs → Heads xs next → from ≤ next
  unfolding Heads
  starts_from [] up is = absurd is
  starts_from (x ∷ xs) up is = omega (arith, up.0, is)

  head_is_member : (xs : List ℕ) → Heads xs next → Has xs next
  unfolding Heads
  head_is_member [] is = is
  head_is_member (x ∷ xs) is = inl is

  rest_rises : (xs : List ℕ) → RisesFrom from xs → HeadsFrom xs next → RisesFrom (suc next) (without_first next xs)
  unfolding HeadsFrom
  rest_rises [] up least = tt
  rest_rises (x ∷ xs) up least = elim (cases_Bool (eqb x next)) [
    | inl is ↦ rw is (subst (λ (n : ℕ). RisesFrom (suc n) xs) (eqb-true x next is) up.1)
    | inr other ↦ rw other (omega (arith, least, eqb-false x next other), up.1)
  ]

  rest_is_of : (xs : List ℕ) (z : ℕ) → Has (without_first next xs) z → Has xs z
  rest_is_of [] z has = has
  rest_is_of (x ∷ xs) z has = elim (cases_Bool (eqb x next)) [
    | inl is ↦ inr (rw is at has)
    | inr other ↦ rw other at has
  ]

  is_next_or_rest : (xs : List ℕ) (z : ℕ) → Has xs z → (z ≡ next) ⊎ Has (without_first next xs) z
  is_next_or_rest [] z has = inr has
  is_next_or_rest (x ∷ xs) z has = elim (cases_Bool (eqb x next)) [
    | inl is ↦ rw is (⊎_elim (λ same. inl (sym same ∙ eqb-true x next is)) (λ h. inr h) has)
    | inr other ↦ rw other (inr has)
  ]

  rest_within : (xs : List ℕ) → length (without_first next xs) ≤ length xs
  rest_within [] = omega arith
  rest_within (x ∷ xs) = elim (cases_Bool (eqb x next)) [
    | inl is ↦ rw is (omega arith)
    | inr other ↦ rw other (omega arith)
  ]

  rest_is_less : (xs : List ℕ) → Heads xs next → length (without_first next xs) + 1 ≤ length xs
  unfolding Heads
  rest_is_less [] is = absurd is
  rest_is_less (x ∷ xs) is = rw (eq-eqb x next is) (omega arith)

rises_push : (b h : ℕ) (xs : List ℕ) → b ≤ h → RisesFrom b xs → All (λ x. x < h) xs → RisesFrom b (xs ++ h ∷ [])
rises_push b h [] le up below = (le, tt)
rises_push b h (x ∷ xs) le up below = (up.0, rises_push (suc x) h xs (All-head (λ x. x < h) x xs below) up.1 (All-tail (λ x. x < h) x xs below))

module _ (taken a b whole : List ℕ) (next : ℕ) (walked : IsWalked taken a b whole) (least : lesser (slice_get a 0) (slice_get b 0) ≡ Some next) where
  left_or_taken : (x : ℕ) → Contains taken x ⊎ (Has a x ⊎ Has b x) → Contains (taken ++ next ∷ []) x ⊎ (Has (without_first next a) x ⊎ Has (without_first next b) x)
  left_or_taken x (inl has) = inl (Contains-append_left taken (next ∷ []) x has)
  left_or_taken x (inr (inl has)) = ⊎_elim (λ same. inl (Contains-append_right taken (next ∷ []) x (Contains-from_Has (next ∷ []) x (inl (sym same))))) (λ h. inr (inl h)) (is_next_or_rest next walked.from a x has)
  left_or_taken x (inr (inr has)) = ⊎_elim (λ same. inl (Contains-append_right taken (next ∷ []) x (Contains-from_Has (next ∷ []) x (inl (sym same))))) (λ h. inr (inr h)) (is_next_or_rest next walked.from b x has)

  next_is_of : Heads a next ⊎ Heads b next → Contains whole next
  next_is_of (inl is) = walked.a_are next (head_is_member next walked.from a is)
  next_is_of (inr is) = walked.b_are next (head_is_member next walked.from b is)

  is_of : (x : ℕ) → Contains taken x ⊎ Contains (next ∷ []) x → Contains whole x
  unfolding IsNext
  is_of x (inl has) = walked.taken_are x has
  is_of x (inr has) = ⊎_elim (λ same. subst (Contains whole) same (next_is_of (next_is a b next least).2)) (λ none. absurd none) (Has-from_Contains (next ∷ []) x has)

  fewer : Heads a next ⊎ Heads b next → length (taken ++ next ∷ []) + (length (without_first next a) + length (without_first next b)) ≤ length whole
  fewer (inl is) = omega (arith, walked.few, length-append taken (next ∷ []), rest_is_less next walked.from a is, rest_within next walked.from b)
  fewer (inr is) = omega (arith, walked.few, length-append taken (next ∷ []), rest_is_less next walked.from b is, rest_within next walked.from a)

  pub walk_step : IsWalked (taken ++ next ∷ []) (without_first next a) (without_first next b) whole
  unfolding IsNext
  walk_step =
      let is = next_is a b next least in
      let above : walked.from ≤ next = ⊎_elim (starts_from next walked.from a walked.a_rises) (starts_from next walked.from b walked.b_rises) is.2 in
      record {
        from = suc next;
        rises = rises_push 0 next taken (omega arith) walked.rises (All-weaker (λ x. x < walked.from) (λ x. x < next) (λ x less. omega (arith, less, above)) taken walked.below);
        below = All-push (λ x. x < suc next) taken next (All-weaker (λ x. x < walked.from) (λ x. x < suc next) (λ x less. omega (arith, less, above)) taken walked.below) (omega arith);
        a_rises = rest_rises next walked.from a walked.a_rises is.0;
        b_rises = rest_rises next walked.from b walked.b_rises is.1;
        taken_are = λ x has. is_of x (Contains-append_cases taken (next ∷ []) x has);
        a_are = λ x has. walked.a_are x (rest_is_of next walked.from a x has);
        b_are = λ x has. walked.b_are x (rest_is_of next walked.from b x has);
        all = λ x has. left_or_taken x (walked.all x has);
        few = fewer is.2;
      }

-- the walk ends at k members, or where nothing is left
pub walk_ends : (k : ℕ) (taken a b whole : List ℕ) → IsWalked taken a b whole → length taken ≤ k → (k ≤ length taken) ⊎ ((a ≡ []) × (b ≡ [])) → taken ≡ k_smallest k whole
walk_ends k taken a b whole walked most over =
    sym (k_smallest_is k taken whole (increasing_from_RisesFrom 0 taken walked.rises) most walked.taken_are (λ x has. at x over (walked.all x has)))
  where
    above : (x : ℕ) → walked.from ≤ x → All (λ y. y < x) taken
    above x le = All-weaker (λ y. y < walked.from) (λ y. y < x) (λ y less. omega (arith, less, le)) taken walked.below

    at : (x : ℕ) → (k ≤ length taken) ⊎ ((a ≡ []) × (b ≡ [])) → Contains taken x ⊎ (Has a x ⊎ Has b x) → Contains taken x ⊎ ((length taken ≡ k) × All (λ y. y < x) taken)
    at x over (inl has) = inl has
    at x (inl full) (inr (inl has)) = inr (omega (arith, full, most), above x (RisesFrom-member walked.from a x walked.a_rises has))
    at x (inl full) (inr (inr has)) = inr (omega (arith, full, most), above x (RisesFrom-member walked.from b x walked.b_rises has))
    at x (inr none) (inr (inl has)) = absurd (subst (λ (l : List ℕ). Has l x) none.0 has)
    at x (inr none) (inr (inr has)) = absurd (subst (λ (l : List ℕ). Has l x) none.1 has)
