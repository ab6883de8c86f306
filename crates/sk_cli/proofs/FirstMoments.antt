-- The first of some moments, of which there is one after each window if they are asked for.
use Rattle.std.proofs.Common.{◌≡◌, ℕ, ◌+◌, ◌<◌, ◌≤◌, Bool, true, false, if◌then◌else◌, List, [], ◌∷◌, ◌++◌, length, take, get_or, AllPairs, sym, ap, subst, ◌∙◌, arith, length-append, length-take-le}
use Rattle.std.proofs.lemmas.List.{get_or-take, take-take, take-append-le}

due_most : (asked : Bool) (p : ℕ) → (if asked then p else 0) ≤ p
due_most true p = omega arith
due_most false p = omega arith

due_less : (asked : Bool) (p q : ℕ) → p ≤ q → (if asked then p else 0) ≤ (if asked then q else 0)
due_less true p q less = less
due_less false p q less = omega arith

due_fewer : (asked : Bool) (p q n : ℕ) → p < q → n + 1 ≡ (if asked then q else 0) → (if asked then p else 0) ≤ n
due_fewer true p q n less is = omega (arith, less, is)
due_fewer false p q n less is = omega (arith, is)

module _ {M : Type 0} (asked : Bool) (windows : List (List (List ℕ))) (moments : List M) (count : length moments ≡ (if asked then length windows else 0)) where
  -- how many moments there are after the first windows
  abbrev first : ℕ → ℕ
  first many = if asked then length (take many windows) else 0

  few : (many : ℕ) → many ≤ length windows → first many ≤ length moments
  few many within =
      let less = due_less asked (length (take many windows)) (length windows) (omega (arith, length-take-le many windows within, within)) in
      omega (arith, less, count)

  few_windows : (many : ℕ) → many ≤ length windows → first many ≤ many
  few_windows many within = omega (arith, due_most asked (length (take many windows)), length-take-le many windows within)

  pub first_count : (many : ℕ) → many ≤ length windows → length (take (first many) moments) ≡ first many
  first_count many within = length-take-le (first many) moments (few many within)

  pub first_grows : (Follows : M → M → Type 0) → AllPairs Follows moments → (many : ℕ) → many ≤ length windows → AllPairs Follows (take (first many) moments)
  first_grows Follows grows many within = λ i j d less inside.
      let n = first many in
      let size = first_count many within in
      subst (λ (m : M). Follows m (get_or (take n moments) j d)) (sym (get_or-take n moments i d (omega (arith, less, inside, size))))
      (subst (λ (m : M). Follows (get_or moments i d) m) (sym (get_or-take n moments j d (omega (arith, inside, size))))
      (grows i j d less (omega (arith, inside, size, few many within))))

  pub first_each : (IsMoment : List (List (List ℕ)) → M → Type 0) → ((j : ℕ) (d : M) → j < length moments → IsMoment (take (j + 1) windows) (get_or moments j d)) → (many : ℕ) → many ≤ length windows
      → (j : ℕ) (d : M) → j < length (take (first many) moments) → IsMoment (take (j + 1) (take many windows)) (get_or (take (first many) moments) j d)
  first_each IsMoment each many within j d inside =
      let n = first many in
      let size = first_count many within in
      subst (λ (m : M). IsMoment (take (j + 1) (take many windows)) m) (sym (get_or-take n moments j d (omega (arith, inside, size))))
      (subst (λ (l : List (List (List ℕ))). IsMoment l (get_or moments j d)) (sym (take-take (j + 1) many windows (omega (arith, inside, size, few_windows many within))))
      (each j d (omega (arith, inside, size, few many within))))

  -- those of fewer windows are the first of all moments but the last
  pub first_earlier : (earlier : List M) (last : M) → moments ≡ earlier ++ last ∷ [] → (many : ℕ) → many < length windows → take (first many) moments ≡ take (first many) earlier
  first_earlier earlier last is many less =
      let least = due_fewer asked (length (take many windows)) (length windows) (length earlier) (omega (arith, less, length-take-le many windows (omega (arith, less))))
      (sym (length-append earlier (last ∷ [])) ∙ sym (ap (λ (l : List M). length l) is) ∙ count) in
      ap (λ (l : List M). take (first many) l) is ∙ take-append-le (first many) earlier (last ∷ []) least
