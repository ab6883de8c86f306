-- Lists of two views, put together place by place.
use Rattle.std.proofs.Common.{◌≡◌, ◌≢◌, ℕ, zero, suc, ◌<◌, ◌≤◌, if◌then◌else◌, List, [], ◌∷◌, ◌++◌, length, get_or, set, sym, refl, ap, ◌∙◌, subst, ⊎_elim, arith, length-append, append-nil}
use Rattle.std.proofs.lemmas.Bool.{lt-ltb, le-ltb, cases_lt, cases_eq, eq-eqb, ne_eqb}
use Rattle.sk_model.specs.Missing.{Begins, longer}
use Rattle.sk_model.proofs.Missing.{begins_refl, begins_nil, begins_length, begins_shorter}
use Rattle.sk_gate.specs.Views.{merged, sizes_merged, blanks}

-- ---- blank lists

pub blank_at : {A : Type 0} (n i : ℕ) → get_or (blanks {A = A} n) i [] ≡ []
blank_at zero i = refl
blank_at (suc n) zero = refl
blank_at (suc n) (suc i) = blank_at n i

pub blanks_length : (A : Type 0) (n : ℕ) → length (blanks {A = A} n) ≡ n
blanks_length A zero = refl
blanks_length A (suc n) = ap suc (blanks_length A n)

-- a list that is set to a beginning of h stands for a beginning of h there
pub set_begins : {A : Type 0} (ls : List (List A)) (i : ℕ) (xs h : List A) → Begins xs h → Begins (get_or (set ls i xs) i []) h
set_begins [] i xs h b = begins_nil h
set_begins (l ∷ ls) zero xs h b = b
set_begins (l ∷ ls) (suc i) xs h b = set_begins ls i xs h b

-- ---- of two beginnings of one list the longer

module _ {A : Type 0} (xs ys : List A) where
  longer_first : length ys ≤ length xs → longer xs ys ≡ xs
  longer_first le = ap (λ c. if c then ys else xs) (le-ltb (length xs) (length ys) le)

  longer_second : length xs < length ys → longer xs ys ≡ ys
  longer_second lt = ap (λ c. if c then ys else xs) (lt-ltb (length xs) (length ys) lt)

  pub longer_either : (P : List A → Type 0) → P xs → P ys → P (longer xs ys)
  longer_either P a b = ⊎_elim (λ lt. subst P (sym (longer_second lt)) b) (λ le. subst P (sym (longer_first le)) a) (cases_lt (length xs) (length ys))

  pub longer_left : (h : List A) → Begins xs h → Begins ys h → Begins xs (longer xs ys)
  longer_left h a b = ⊎_elim (λ (lt : length xs < length ys). subst (Begins xs) (sym (longer_second lt)) (begins_shorter xs ys h a b (omega arith)))
      (λ (le : length ys ≤ length xs). subst (Begins xs) (sym (longer_first le)) (begins_refl xs)) (cases_lt (length xs) (length ys))

  pub longer_right : (h : List A) → Begins xs h → Begins ys h → Begins ys (longer xs ys)
  longer_right h a b = ⊎_elim (λ (lt : length xs < length ys). subst (Begins ys) (sym (longer_second lt)) (begins_refl ys))
      (λ (le : length ys ≤ length xs). subst (Begins ys) (sym (longer_first le)) (begins_shorter ys xs h b a le)) (cases_lt (length xs) (length ys))

  pub longer_same : Begins ys xs → longer xs ys ≡ xs
  longer_same b = longer_first (begins_length ys xs b)

  -- one that is the whole list is the longer
  pub whole_first : (h : List A) → xs ≡ h → Begins ys h → longer xs ys ≡ h
  whole_first h e b = longer_first (let at = ap length e in let le = begins_length ys h b in omega arith) ∙ e

nothing : {A : Type 0} (xs : List A) → length xs ≡ 0 → xs ≡ []
nothing [] e = refl
nothing (x ∷ xs) e = absurd (omega arith)

-- a beginning that is as long is the whole
same_length : {A : Type 0} (xs h : List A) → Begins xs h → length h ≤ length xs → xs ≡ h
same_length xs h b le = sym (b.1 ∙ ap (λ l. xs ++ l) (nothing b.0 (let e = ap length b.1 in omega (arith, length-append xs b.0))) ∙ append-nil xs)

pub begins_same : {A : Type 0} (xs ys : List A) → Begins xs ys → Begins ys xs → xs ≡ ys
begins_same xs ys a b = same_length xs ys a (begins_length ys xs b)

pub whole_second : {A : Type 0} (xs ys h : List A) → ys ≡ h → Begins xs h → longer xs ys ≡ h
whole_second xs ys h e b = ⊎_elim (λ (lt : length xs < length ys). longer_second xs ys lt ∙ e)
    (λ (le : length ys ≤ length xs). let at = ap length e in let most = begins_length xs h b in longer_first xs ys le ∙ same_length xs h b (omega arith)) (cases_lt (length xs) (length ys))

-- ---- place by place

module _ {A : Type 0} where
  pub merged_length : (n : ℕ) (xs ys : List (List A)) → length xs ≡ n → length ys ≡ n → length (merged xs ys) ≡ n
  unfolding merged
  merged_length n [] ys a b = b
  merged_length n (x ∷ xs) [] a b = a
  merged_length zero (x ∷ xs) (y ∷ ys) a b = absurd (omega arith)
  merged_length (suc n) (x ∷ xs) (y ∷ ys) a b = let e = merged_length n xs ys (omega arith) (omega arith) in omega arith

  pub merged_either : (P : List A → Type 0) (xs ys : List (List A)) (i : ℕ) → P (get_or xs i []) → P (get_or ys i []) → P (get_or (merged xs ys) i [])
  unfolding merged
  merged_either P [] ys i a b = b
  merged_either P (x ∷ xs) [] i a b = a
  merged_either P (x ∷ xs) (y ∷ ys) zero a b = longer_either x y P a b
  merged_either P (x ∷ xs) (y ∷ ys) (suc i) a b = merged_either P xs ys i a b

  pub merged_first : (xs ys : List (List A)) (i : ℕ) (h : List A) → get_or xs i [] ≡ h → Begins (get_or ys i []) h → get_or (merged xs ys) i [] ≡ h
  unfolding merged
  merged_first [] ys i h a b = same_length (get_or ys i []) h b (let e = ap length a in omega arith)
  merged_first (x ∷ xs) [] i h a b = a
  merged_first (x ∷ xs) (y ∷ ys) zero h a b = whole_first x y h a b
  merged_first (x ∷ xs) (y ∷ ys) (suc i) h a b = merged_first xs ys i h a b

  pub merged_second : (xs ys : List (List A)) (i : ℕ) (h : List A) → get_or ys i [] ≡ h → Begins (get_or xs i []) h → get_or (merged xs ys) i [] ≡ h
  unfolding merged
  merged_second [] ys i h a b = a
  merged_second (x ∷ xs) [] i h a b = same_length (get_or (x ∷ xs) i []) h b (let e = ap length a in omega arith)
  merged_second (x ∷ xs) (y ∷ ys) zero h a b = whole_second x y h a b
  merged_second (x ∷ xs) (y ∷ ys) (suc i) h a b = merged_second xs ys i h a b

-- ---- sizes

pub sizes_length : (n : ℕ) (xs ys : List ℕ) → length xs ≡ n → length ys ≡ n → length (sizes_merged xs ys) ≡ n
unfolding sizes_merged
sizes_length n [] ys a b = b
sizes_length n (x ∷ xs) [] a b = a
sizes_length zero (x ∷ xs) (y ∷ ys) a b = absurd (omega arith)
sizes_length (suc n) (x ∷ xs) (y ∷ ys) a b = let e = sizes_length n xs ys (omega arith) (omega arith) in omega arith

-- P of a size: of one that is known, or of none
pub sizes_either : (P : ℕ → Type 0) (xs ys : List ℕ) (i : ℕ) → (get_or xs i 0 ≢ 0 → P (get_or xs i 0)) → (get_or xs i 0 ≡ 0 → P (get_or ys i 0)) → P (get_or (sizes_merged xs ys) i 0)
unfolding sizes_merged
sizes_either P [] ys i a b = b refl
sizes_either P (x ∷ xs) [] zero a b = ⊎_elim (λ (e : x ≡ 0). subst P (sym e) (b e)) (λ ne. a ne) (cases_eq x 0)
sizes_either P (x ∷ xs) [] (suc i) a b = ⊎_elim (λ (e : get_or xs i 0 ≡ 0). subst P (sym e) (b e)) (λ ne. a ne) (cases_eq (get_or xs i 0) 0)
sizes_either P (x ∷ xs) (y ∷ ys) zero a b = ⊎_elim (λ (e : x ≡ 0). subst P (ap (λ c. if c then y else x) (sym (eq-eqb x 0 e))) (b e)) (λ ne. subst P (ap (λ c. if c then y else x) (sym (ne_eqb x 0 ne))) (a ne)) (cases_eq x 0)
sizes_either P (x ∷ xs) (y ∷ ys) (suc i) a b = sizes_either P xs ys i a b

pub size_first : (xs ys : List ℕ) (i : ℕ) → get_or xs i 0 ≢ 0 → get_or (sizes_merged xs ys) i 0 ≢ 0
size_first xs ys i ne = sizes_either (λ x. x ≢ 0) xs ys i (λ known. known) (λ z. absurd (ne z))

pub size_second : (xs ys : List ℕ) (i : ℕ) → get_or ys i 0 ≢ 0 → get_or (sizes_merged xs ys) i 0 ≢ 0
size_second xs ys i ne = sizes_either (λ x. x ≢ 0) xs ys i (λ known. known) (λ _. ne)
