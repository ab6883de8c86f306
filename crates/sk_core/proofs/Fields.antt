-- The fields of a text, one after another.
use Rattle.std.proofs.Common.{◌≡◌, ℕ, suc, ◌+◌, ◌<◌, ◌≤◌, Bool, true, false, cond, eqb, not, List, [], ◌∷◌, length, take, drop, ltb, Some, None, arith, refl, sym, ap, ◌∙◌, subst}
use borrow.Author.Tests.{ltb-true, ltb-false}
use Rattle.std.specs.List.{position, position_or_len}
use Rattle.sk_core.specs.Texts.{fields_of, onto_first}

abbrev pub is_space : ℕ → Bool
is_space byte = eqb byte 32

-- after the first space
pub cut_some : (text : List ℕ) → position_or_len is_space text < length text → fields_of text ≡ take (position_or_len is_space text) text ∷ fields_of (drop (position_or_len is_space text + 1) text)
unfolding fields_of
cut_some [] inside = absurd (omega arith)
cut_some (x ∷ xs) inside = by_byte (eqb x 32) (cut_some xs) inside
  where
    p : ℕ
    p = position_or_len is_space xs

    by_byte : (b : Bool) → (p < length xs → fields_of xs ≡ take p xs ∷ fields_of (drop (p + 1) xs)) → cond (not b) (1 + p) 0 < length (x ∷ xs)
        → cond b ([] ∷ fields_of xs) (onto_first x (fields_of xs)) ≡ take (cond (not b) (1 + p) 0) (x ∷ xs) ∷ fields_of (drop (cond (not b) (1 + p) 0 + 1) (x ∷ xs))
    by_byte true more inside = refl
    by_byte false more inside =
        let one : suc p ≡ 1 + p = omega arith in let two : suc (p + 1) ≡ 1 + p + 1 = omega arith in
        ap (onto_first x) (more (omega arith)) ∙ (λ a. take (one a) (x ∷ xs) ∷ fields_of (drop (two a) (x ∷ xs)))

-- a text without a space
pub cut_none : (text : List ℕ) → length text ≤ position_or_len is_space text → fields_of text ≡ text ∷ []
unfolding fields_of
cut_none [] none = refl
cut_none (x ∷ xs) none = by_byte (eqb x 32) (cut_none xs) none
  where
    p : ℕ
    p = position_or_len is_space xs

    by_byte : (b : Bool) → (length xs ≤ p → fields_of xs ≡ xs ∷ []) → length (x ∷ xs) ≤ cond (not b) (1 + p) 0 → cond b ([] ∷ fields_of xs) (onto_first x (fields_of xs)) ≡ (x ∷ xs) ∷ []
    by_byte true more none = absurd (omega arith)
    by_byte false more none = ap (onto_first x) (more (omega arith))

-- the same of what `position` returns
pub cut_at : (text : List ℕ) (at : ℕ) → Some at ≡ position is_space text → (at < length text) × (fields_of text ≡ take at text ∷ fields_of (drop (at + 1) text))
cut_at text at is = by_test (ltb p (length text)) refl is
  where
    p : ℕ
    p = position_or_len is_space text

    some_is : {A : Type 0} {a b : A} → Some a ≡ Some b → a ≡ b
    some_is e = cc

    some_none : {A : Type 0} {a : A} → Some a ≡ None → ⊥
    some_none e = cc

    by_test : (b : Bool) → ltb p (length text) ≡ b → Some at ≡ cond b (Some p) None → (at < length text) × (fields_of text ≡ take at text ∷ fields_of (drop (at + 1) text))
    by_test true inside is = let e : p ≡ at = sym (some_is is) in let l : p < length text = ltb-true p (length text) inside in
        (omega arith, subst (λ n. fields_of text ≡ take n text ∷ fields_of (drop (n + 1) text)) e (cut_some text l))
    by_test false inside is = absurd (some_none is)

pub not_cut : (text : List ℕ) → None ≡ position is_space text → fields_of text ≡ text ∷ []
not_cut text is = by_test (ltb p (length text)) refl is
  where
    p : ℕ
    p = position_or_len is_space text

    none_some : {A : Type 0} {a : A} → None ≡ Some a → ⊥
    none_some e = cc

    by_test : (b : Bool) → ltb p (length text) ≡ b → None ≡ cond b (Some p) None → fields_of text ≡ text ∷ []
    by_test true inside is = absurd (none_some is)
    by_test false inside is = let l : length text ≤ p = ltb-false p (length text) inside in cut_none text l
