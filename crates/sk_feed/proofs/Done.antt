-- Members of a list, one after another.
use Rattle.std.proofs.Common.{◌≡◌, ◌≢◌, ⊎_elim, ℕ, ◌+◌, ◌<◌, ◌≤◌, List, length, get_or, set, sym, refl, ◌∙◌, subst, arith}
use Rattle.std.proofs.lemmas.Bool.{cases_lt}
use Rattle.std.proofs.lemmas.List.{get_or-set_same, get_or-set_other, get_or_read, length-set}

-- what was done to the members before a place, and the others are as they were
pub record DoneTo {A : Type 0} (R : ℕ → A → A → Type 0) (xs ys : List A) (i : ℕ) : Type 0 where
  pub count : length ys ≡ length xs
  pub done : (j : ℕ) (d : A) → j < i → j < length xs → R j (get_or xs j d) (get_or ys j d)
  pub later : (j : ℕ) (d : A) → i ≤ j → get_or ys j d ≡ get_or xs j d

pub done_none : {A : Type 0} (R : ℕ → A → A → Type 0) (xs : List A) → DoneTo R xs xs 0
done_none R xs = record { count = refl; done = λ j d before. let no : ⊥ = omega arith in absurd no; later = λ j d behind. refl }

module _ {A : Type 0} (R : ℕ → A → A → Type 0) (xs ys : List A) where
  -- the member at the place
  pub done_at : (i : ℕ) (x : A) → DoneTo R xs ys i → i < length xs → x ≡ get_or ys i x → (d : A) → x ≡ get_or xs i d
  done_at i x to within is d = let inside : i < length ys = omega (arith, to.count) in get_or_read ys i x inside is d ∙ to.later i d (omega arith)

  pub done_next : (i : ℕ) (x y : A) → DoneTo R xs ys i → i < length xs → x ≡ get_or ys i x → R i x y → DoneTo R xs (set ys i y) (i + 1)
  done_next i x y to within is r = record {
    count = length-set ys i y ∙ to.count;
    done = λ j d below inside. ⊎_elim
        (λ before. let other : j ≢ i = omega arith in subst (R j (get_or xs j d)) (sym (get_or-set_other ys i j y d other)) (to.done j d before inside))
        (λ behind.
        let same : i ≡ j = omega arith in
        let there : i < length ys = omega (arith, to.count) in
        subst (λ m. R m (get_or xs m d) (get_or (set ys i y) m d)) same
        (subst (R i (get_or xs i d)) (sym (get_or-set_same ys i y d there)) (subst (λ z. R i z y) (done_at i x to within is d) r)))
        (cases_lt j i);
    later = λ j d behind. let other : j ≢ i = omega arith in get_or-set_other ys i j y d other ∙ to.later j d (omega arith);
  }

  -- all of them
  pub done_all : (n : ℕ) → n ≡ length xs → DoneTo R xs ys n → (i : ℕ) (d : A) → i < length xs → R i (get_or xs i d) (get_or ys i d)
  done_all n is to i d within = to.done i d (omega arith) within
