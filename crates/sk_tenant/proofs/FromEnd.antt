-- Lists that are gone through from their ends.
use Rattle.std.proofs.Common.{◌≡◌, ◌⊎◌, inl, inr, ℕ, ◌+◌, ◌<◌, ◌≤◌, List, [], ◌∷◌, ◌++◌, length, get_or, set, sym, ap, subst, ◌∙◌, refl, arith, append_assoc, length-append, length-set, get_or-set_same, get_or-set_other}
use Rattle.std.proofs.lemmas.Bool.{cases_lt}
use Rattle.std.proofs.Math.Seq.{get_or-append_seam}
use Rattle.sk_model.specs.Missing.{Begins}

-- the members from place r on were changed so, and those before it stay
pub record ChangedFrom {A : Type 0} (R : ℕ → A → A → Type 0) (r : ℕ) (old new : List A) : Type 0 where
  pub count : length new ≡ length old
  pub before : (i : ℕ) (d : A) → i < r → get_or new i d ≡ get_or old i d
  pub after : (i : ℕ) (d : A) → r ≤ i → i < length old → R i (get_or old i d) (get_or new i d)

pub none_changed : {A : Type 0} (R : ℕ → A → A → Type 0) (r : ℕ) (xs : List A) → length xs ≤ r → ChangedFrom R r xs xs
none_changed R r xs le = record { count = refl; before = λ i d lt. refl; after = λ i d later within. absurd (omega (arith, le, later, within)) }

-- one member more
pub one_changed : {A : Type 0} (R : ℕ → A → A → Type 0) (r n : ℕ) (old mid : List A) (x : A) → n ≡ r + 1 → r < length old → ChangedFrom R n old mid → ((d : A) → R r (get_or old r d) x) → ChangedFrom R r old (set mid r x)
one_changed {A} R r n old mid x next within c this = record {
  count = length-set mid r x ∙ c.count;
  before = λ i d lt. get_or-set_other mid r i x d (λ same. absurd (omega (arith, same, lt))) ∙ c.before i d (omega (arith, next, lt));
  after = λ i d later inside. by_place i d inside later (cases_lt r i);
}
  where
    by_place : (i : ℕ) (d : A) → i < length old → r ≤ i → (r < i) ⊎ (i ≤ r) → R i (get_or old i d) (get_or (set mid r x) i d)
    by_place i d inside later (inl past) =
        subst (R i (get_or old i d)) (sym (get_or-set_other mid r i x d (λ same. absurd (omega (arith, same, past))))) (c.after i d (omega (arith, next, past)) inside)
    by_place i d inside later (inr le) =
        let same : r ≡ i = omega (arith, later, le) in
        subst (λ j. R j (get_or old j d) (get_or (set mid r x) j d)) same
        (subst (R r (get_or old r d)) (sym (get_or-set_same mid r x d (omega (arith, within, c.count)))) (this d))

-- the last of those that are left, and what is left then
pub last_is : {A : Type 0} (all left rest : List A) (x d : A) → Begins left all → left ≡ rest ++ x ∷ [] → get_or all (length rest) d ≡ x
last_is all left rest x d begins is =
    ap (λ l. get_or l (length rest) d) (begins.1 ∙ ap (λ l. l ++ begins.0) is ∙ append_assoc rest (x ∷ []) begins.0) ∙ get_or-append_seam rest x begins.0 d

pub rest_begins : {A : Type 0} (all left rest : List A) (x : A) → Begins left all → left ≡ rest ++ x ∷ [] → Begins rest all
rest_begins all left rest x begins is = (x ∷ begins.0, begins.1 ∙ ap (λ l. l ++ begins.0) is ∙ append_assoc rest (x ∷ []) begins.0)

pub one_fewer : {A : Type 0} (left rest : List A) (x : A) → left ≡ rest ++ x ∷ [] → length left ≡ length rest + 1
one_fewer left rest x is = ap length is ∙ length-append rest (x ∷ [])

pub is_inside : {A : Type 0} (all left rest : List A) (x : A) → Begins left all → left ≡ rest ++ x ∷ [] → length rest < length all
is_inside all left rest x begins is = omega (arith, ap length begins.1, length-append left begins.0, one_fewer left rest x is)
