-- What holds of each member of a list, at its place counted from some number on.
use Rattle.std.proofs.Common.{◌≡◌, ◌⊎◌, inl, inr, ℕ, ◌+◌, ◌-◌, ◌<◌, ◌≤◌, zero, suc, List, [], ◌∷◌, ◌++◌, length, map, get_or, refl, sym, ◌∙◌, ap, subst, arith, append-nil, length-append}
use Rattle.std.proofs.lemmas.Bool.{cases_lt}
use Rattle.std.proofs.lemmas.List.{get_or_append_left, get_or-append_right, get_or_at}

abbrev pub Each : {A : Type 0} → (ℕ → A → Type 0) → ℕ → List A → Type 0
Each P from xs = (i : ℕ) (d : _) → i < length xs → P (from + i) (get_or xs i d)

pub each_none : {A : Type 0} (P : ℕ → A → Type 0) (from : ℕ) → Each P from []
each_none P from i d within = absurd (omega arith)

pub each_append : {A : Type 0} (P : ℕ → A → Type 0) (from : ℕ) (xs ys : List A) → Each P from xs → Each P (from + length xs) ys → Each P from (xs ++ ys)
each_append P from xs ys first then i d within = by_place (cases_lt i (length xs))
  where
    by_place : (i < length xs) ⊎ (length xs ≤ i) → P (from + i) (get_or (xs ++ ys) i d)
    by_place (inl front) = subst (P (from + i)) (sym (get_or_append_left xs ys d i front)) (first i d front)
    by_place (inr later) =
        let inside : i - length xs < length ys = omega (arith, within, later, length-append xs ys) in
        let place : (from + length xs) + (i - length xs) ≡ from + i = omega (arith, later) in
        subst (P (from + i)) (sym (get_or-append_right xs ys (length xs) i d refl later)) (subst (λ n. P n (get_or ys (i - length xs) d)) place (then (i - length xs) d inside))

pub each_one : {A : Type 0} (P : ℕ → A → Type 0) (from : ℕ) (x : A) → P from x → Each P from (x ∷ [])
each_one P from x holds zero d within = let here : from ≡ from + 0 = omega arith in subst (λ n. P n x) here holds
each_one P from x holds (suc i) d within = absurd (omega arith)

pub each_last : {A : Type 0} (P : ℕ → A → Type 0) (from : ℕ) (xs : List A) (x : A) → Each P from xs → P (from + length xs) x → Each P from (xs ++ x ∷ [])
each_last P from xs x first last = each_append P from xs (x ∷ []) first (each_one P (from + length xs) x last)

pub each_so : {A : Type 0} (P Q : ℕ → A → Type 0) (from : ℕ) (xs : List A) → ((i : ℕ) (x : A) → P i x → Q i x) → Each P from xs → Each Q from xs
each_so P Q from xs so each i d within = so (from + i) (get_or xs i d) (each i d within)

-- of all members, the next after those before it
pub each_next : {A : Type 0} (P : ℕ → A → Type 0) (from : ℕ) (xs before rest : List A) (x : A) → before ++ x ∷ rest ≡ xs → Each P from xs → P (from + length before) x
each_next P from xs before rest x all each =
    let inside : length before < length xs = omega (arith, ap length all, length-append before (x ∷ rest)) in
    subst (P (from + length before)) (ap (λ l. get_or l (length before) x) (sym all) ∙ get_or_at before x rest x (length before) refl) (each (length before) x inside)

pub at_some : {A P : Type 0} (xs : List A) (i : ℕ) → i < length xs → (A → P) → P
at_some [] i within f = absurd (omega arith)
at_some (x ∷ xs) i within f = f x

-- those that came are all, if none is left
pub nothing_left : {A : Type 0} (before rest all : List A) → before ++ rest ≡ all → length rest ≡ 0 → before ≡ all
nothing_left before [] all is none = sym (append-nil before) ∙ is
nothing_left before (x ∷ rest) all is none = absurd (omega (arith, none))

-- lists of which each two members at one place have the same of this
pub same_by_places : {A B : Type 0} (f : A → B) (xs ys : List A) → length xs ≡ length ys → ((i : ℕ) (d : A) → i < length xs → f (get_or xs i d) ≡ f (get_or ys i d)) → map f xs ≡ map f ys
same_by_places f [] [] len each = refl
same_by_places f [] (y ∷ ys) len each = absurd (omega (arith, len))
same_by_places f (x ∷ xs) [] len each = absurd (omega (arith, len))
same_by_places f (x ∷ xs) (y ∷ ys) len each =
    let first : f x ≡ f y = each 0 x (omega arith) in
    ap (λ b. b ∷ map f xs) first ∙ ap (λ l. f y ∷ l) (same_by_places f xs ys (omega (arith, len)) (λ i d within. each (suc i) d (omega (arith, within))))
