-- What a batch changes, if it has hashes that stand at their home.
use Rattle.std.proofs.Common.{◌≡◌, ℕ, ◌+◌, ◌<◌, Bool, true, false, not, cond, List, [], ◌∷◌, ◌++◌, length, get_or, Contains, ◌⊎◌, inl, inr, ⊎_elim, refl, ap, subst, ◌∙◌, arith, mod-lt}
use Rattle.std.specs.List.{filter}
use Rattle.std.proofs.lemmas.Bool.{false≢true}
use Rattle.std.proofs.lemmas.Bool.Decides.{nat_tests}
use Rattle.std.proofs.lemmas.List.Elements.{Contains-append_left, Contains-append_right, Contains-append_cases, Contains-push_cases}
use Rattle.sk_model.specs.Sketch.{rising, k_smallest}
use Rattle.sk_model.proofs.Rising.{Has, Has-from_Contains, Contains-from_Has}
use Rattle.sk_model.proofs.Sketch.{k_smallest_of_members, k_smallest_has_members, rising-has}
use Rattle.sk_heap.specs.Held.{IsHeld}
use Rattle.sk_heap.specs.Table.{home, is_at_home}
use Rattle.sk_heap.proofs.Both.{heap_has}

-- ---- a batch without hashes that the list has

in_filter : (b : Bool) (x z : ℕ) (xs kept : List ℕ) → (Has kept z → Has xs z) → Has (cond b (x ∷ kept) kept) z → (x ≡ z) ⊎ Has xs z
in_filter true x z xs kept rest (inl is) = inl is
in_filter true x z xs kept rest (inr later) = inr (rest later)
in_filter false x z xs kept rest later = inr (rest later)

Has-filter : (p : ℕ → Bool) (xs : List ℕ) (z : ℕ) → Has (filter p xs) z → Has xs z
Has-filter p [] z has = has
Has-filter p (x ∷ xs) z has = in_filter (p x) x z xs (filter p xs) (λ later. Has-filter p xs z later) has

past_filter : (b : Bool) (x z : ℕ) (xs kept : List ℕ) → (x ≡ z → b ≡ true) → (Has xs z → Has kept z) → (x ≡ z) ⊎ Has xs z → Has (cond b (x ∷ kept) kept) z
past_filter true x z xs kept same rest (inl is) = inl is
past_filter true x z xs kept same rest (inr later) = inr (rest later)
past_filter false x z xs kept same rest (inl is) = absurd (false≢true (same is))
past_filter false x z xs kept same rest (inr later) = rest later

filter-has : (p : ℕ → Bool) (xs : List ℕ) (z : ℕ) → p z ≡ true → Has xs z → Has (filter p xs) z
filter-has p [] z passes has = has
filter-has p (x ∷ xs) z passes has = past_filter (p x) x z xs (filter p xs) (λ (is : x ≡ z). ap p is ∙ passes) (λ later. filter-has p xs z passes later) has

-- those that do not pass are in the list
pub without_known : (k : ℕ) (p : ℕ → Bool) (hashes batch : List ℕ) → ((z : ℕ) → p z ≡ false → Contains hashes z) → k_smallest k (hashes ++ filter p batch) ≡ k_smallest k (hashes ++ batch)
without_known k p hashes batch known = k_smallest_of_members k (hashes ++ filter p batch) (hashes ++ batch) less more
  where
    less : (z : ℕ) → Contains (hashes ++ filter p batch) z → Contains (hashes ++ batch) z
    less z has = ⊎_elim (λ old. Contains-append_left hashes batch z old)
        (λ new. Contains-append_right hashes batch z (Contains-from_Has batch z (Has-filter p batch z (Has-from_Contains (filter p batch) z new))))
        (Contains-append_cases hashes (filter p batch) z has)

    passed : (z : ℕ) (b : Bool) → p z ≡ b → Contains batch z → Contains (hashes ++ filter p batch) z
    passed z true passes new = Contains-append_right hashes (filter p batch) z (Contains-from_Has (filter p batch) z (filter-has p batch z passes (Has-from_Contains batch z new)))
    passed z false fails new = Contains-append_left hashes (filter p batch) z (known z fails)

    more : (z : ℕ) → Contains (hashes ++ batch) z → Contains (hashes ++ filter p batch) z
    more z has = ⊎_elim (λ old. Contains-append_left hashes (filter p batch) z old) (λ new. passed z (p z) refl new) (Contains-append_cases hashes batch z has)

-- one that the list has changes nothing
pub known_stands : (k h : ℕ) (hashes : List ℕ) → Contains hashes h → k_smallest k (hashes ++ h ∷ []) ≡ k_smallest k hashes
known_stands k h hashes known =
    k_smallest_of_members k (hashes ++ h ∷ []) hashes
    (λ z has. ⊎_elim (λ old. old) (λ (same : h ≡ z). subst (λ (z : ℕ). Contains hashes z) same known) (Contains-push_cases hashes h z has))
    (λ z has. Contains-append_left hashes (h ∷ []) z has)

turned : (b : Bool) → not b ≡ false → b ≡ true
turned true _ = refl
turned false same = cc

-- ---- what stands at its home is kept, and so it is in each list that the sketch stands for

module _ (k : ℕ) (heap table : List ℕ) (held : IsHeld k heap table) where
  pub home_is_known : (hashes : List ℕ) (h : ℕ) → rising heap ≡ k_smallest k hashes → is_at_home table h ≡ true → Contains hashes h
  unfolding is_at_home home
  home_is_known hashes h stands at_home =
      let some : 0 < length table = omega (arith, held.wide) in
      let within : home (length table) h < length table = mod-lt _ {m = length table} some in
      let there : get_or table (home (length table) h) 0 ≡ h + 1 = grind (arith, nat_tests) in
      k_smallest_has_members k hashes h (subst (λ (l : List ℕ). Contains l h) stands (Contains-from_Has (rising heap) h (rising-has heap h (heap_has k heap table held h (home (length table) h) within there))))

  pub others_stand : (hashes batch : List ℕ) → rising heap ≡ k_smallest k hashes → k_smallest k (hashes ++ filter (λ h. not (is_at_home table h)) batch) ≡ k_smallest k (hashes ++ batch)
  others_stand hashes batch stands = without_known k (λ h. not (is_at_home table h)) hashes batch (λ z stays. home_is_known hashes z stands (turned (is_at_home table z) stays))
