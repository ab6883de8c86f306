-- The place of a name, by a table of names.
use Rattle.std.proofs.Common.{◌≡◌, ◌≢◌, ◌⊎◌, inl, inr, ⊎_elim, ℕ, zero, suc, ◌+◌, ◌<◌, ◌≤◌, nat_lt, Bool, true, false, not, ◌||◌, cond, if◌then◌else◌, List, [], ◌∷◌, ◌++◌, length, get_or, map, Option, Some, None, slice_get, Contains, IfSome, IfNone, refl, sym, ap, subst, ◌∙◌, arith, length-append}
use Rattle.std.specs.List.{position, position_or_len, list_any}
use Rattle.std.specs.Str.{bytes_eq}
use Rattle.std.proofs.lemmas.Grind.{common_steps}
use Rattle.std.proofs.lemmas.List.{map-append, length-map}
use Rattle.std.proofs.lemmas.List.Sums.{fails_before_first, position_or_len_is}
use Rattle.std.proofs.Math.Seq.{take-append_seam, get_or-append_seam}
use Rattle.std.proofs.lemmas.List.Quantifiers.{all_pairs_push, position-Some}
use Rattle.std.proofs.lemmas.Option.{slice_get-get_or, slice_get_within, get_or_from_slice_get}
use Rattle.std.proofs.lemmas.Bool.{cond-true, lt-ltb}
use Rattle.std.proofs.lemmas.Slice.Eq.{bytes_eq-Decides}
use Rattle.sk_tenant.specs.Names.{AreDifferent, IsFirstTwice, place_of}

-- ---- by the bytes of the table's keys

same_length : {A B : Type 0} (f : A → B) (p : B → Bool) (xs : List A) → position_or_len (λ x. p (f x)) xs ≡ position_or_len p (map f xs)
same_length f p [] = refl
same_length f p (x ∷ xs) = ap (λ n. cond (not (p (f x))) (1 + n) 0) (same_length f p xs)

pub same_place : {A B : Type 0} (f : A → B) (p : B → Bool) (xs : List A) → position (λ x. p (f x)) xs ≡ position p (map f xs)
same_place f p xs =
    ap (λ n. cond (nat_lt n (length xs)) (Some n) None) (same_length f p xs)
    ∙ ap (λ len. cond (nat_lt (position_or_len p (map f xs)) len) (Some (position_or_len p (map f xs))) None) (sym (length-map xs f))

pub same_name : (name own : List ℕ) → bytes_eq name own ≡ true → own ≡ name
same_name name own passes = sym ((bytes_eq-Decides name own).0 passes)

pub name_passes : (name own : List ℕ) → own ≡ name → bytes_eq name own ≡ true
name_passes name own same = (bytes_eq-Decides name own).1 (sym same)

found_name : (names : List (List ℕ)) (name : List ℕ) (i : ℕ) → place_of names name ≡ Some i → slice_get names i ≡ Some name
found_name names name i is =
    let at = position-Some (bytes_eq name) names i [] is in
    slice_get-get_or names i [] at.0 ∙ ap Some (same_name name (get_or names i []) at.1)

not_found : (names : List (List ℕ)) (name : List ℕ) → place_of names name ≡ None → length names ≤ position_or_len (bytes_eq name) names
not_found names name none = grind (arith, common_steps)

pub no_name : (names : List (List ℕ)) (name : List ℕ) → place_of names name ≡ None → ¬ Contains names name
no_name names name none has =
    let fails : bytes_eq name (get_or names has.0 name) ≡ false = fails_before_first (bytes_eq name) names has.0 name (omega (arith, has.1, not_found names name none)) in
    let passes : bytes_eq name (get_or names has.0 name) ≡ true = name_passes name (get_or names has.0 name) has.2 in
    let never : true ≡ false = sym passes ∙ fails in cc

pub none_here : (place : Option ℕ) (names : List (List ℕ)) (name : List ℕ) → place ≡ place_of names name → IfNone place (¬ Contains names name)
none_here (Some i) names name is = tt
none_here None names name is = no_name names name (sym is)

-- so it is of a name of some kind
pub none_if : (place : Option ℕ) (names : List (List ℕ)) (name : List ℕ) (P : Type 0) → place ≡ place_of names name → IfNone place (P → ¬ Contains names name)
none_if (Some i) names name P is = tt
none_if None names name P is = λ _. no_name names name (sym is)

pub found_here : (place : Option ℕ) (names : List (List ℕ)) (name : List ℕ) → place ≡ place_of names name → IfSome place (λ t. slice_get names t ≡ Some name)
found_here (Some i) names name is = found_name names name i (sym is)
found_here None names name is = tt

by_none : (b : Bool) → (b ≡ true → ⊥) → b ≡ false
by_none true never = absurd (never refl)
by_none false never = refl

-- names that are different stand at one place each
pub its_place : (names : List (List ℕ)) (name : List ℕ) (t : ℕ) → AreDifferent names → slice_get names t ≡ Some name → Some t ≡ place_of names name
its_place names name t different is =
    let within : t < length names = slice_get_within names t name is in
    let at : get_or names t [] ≡ name = get_or_from_slice_get names t name [] is in
    let fails : (k : ℕ) → k < t → bytes_eq name (get_or names k []) ≡ false =
    λ k less. by_none _ (λ passes. different k t [] less within (same_name name _ passes ∙ sym at)) in
    let first : position_or_len (bytes_eq name) names ≡ t =
    position_or_len_is (bytes_eq name) names t [] (omega (arith, within)) fails (λ _. name_passes name _ at) in
    sym (ap (λ n. cond (nat_lt n (length names)) (Some n) None) first ∙ cond-true (nat_lt t (length names)) (Some t) None (lt-ltb t (length names) within))

-- ---- a table of the names so far

either_passes : (a b : Bool) → (a || b) ≡ true → (a ≡ true) ⊎ (b ≡ true)
either_passes true b some = inl refl
either_passes false b some = inr some

neither_passes : (a b : Bool) → (a || b) ≡ false → (a ≡ false) × (b ≡ false)
neither_passes true b none = cc
neither_passes false b none = (refl, none)

module _ {V : Type 0} (items : V → List ℕ) (name : List ℕ) where
  has_it : List V → Bool
  has_it keys = list_any (λ key. bytes_eq name (items key)) keys

  none_equal : (keys : List V) → has_it keys ≡ false → (i : ℕ) (d : List ℕ) → i < length (map items keys) → get_or (map items keys) i d ≢ name
  unfolding has_it
  none_equal [] none i d within = absurd (omega arith)
  none_equal (key ∷ keys) none zero d within = λ same.
      let fails : bytes_eq name (items key) ≡ false = (neither_passes (bytes_eq name (items key)) (list_any (λ k. bytes_eq name (items k)) keys) none).0 in
      let never : true ≡ false = sym (name_passes name (items key) same) ∙ fails in cc
  none_equal (key ∷ keys) none (suc i) d within =
      none_equal keys ((neither_passes (bytes_eq name (items key)) (list_any (λ k. bytes_eq name (items k)) keys) none).1) i d (omega arith)

  some_equal : (keys : List V) → has_it keys ≡ true → Contains (map items keys) name
  unfolding has_it
  some_equal [] some = cc
  some_equal (key ∷ keys) some = ⊎_elim
      (λ first. (0, omega arith, same_name name (items key) first))
      (λ later. let has = some_equal keys later in (suc has.0, omega (arith, has.1), has.2))
      (either_passes (bytes_eq name (items key)) (list_any (λ k. bytes_eq name (items k)) keys) some)

  -- the keys after an insert
  insert_by : (b : Bool) (keys keys' : List V) (v : V) → keys' ≡ (if b then keys else keys ++ v ∷ []) → b ≡ false → keys' ≡ keys ++ v ∷ []
  insert_by true keys keys' v is none = cc
  insert_by false keys keys' v is none = is

  stays_by : (b : Bool) (keys keys' : List V) (v : V) → keys' ≡ (if b then keys else keys ++ v ∷ []) → b ≡ true → keys' ≡ keys
  stays_by true keys keys' v is some = is
  stays_by false keys keys' v is some = cc

  not_true : (b : Bool) → true ≡ not b → b ≡ false
  not_true true is = cc
  not_true false is = refl

  not_false : (b : Bool) → false ≡ not b → b ≡ true
  not_false true is = refl
  not_false false is = cc

  pub name_added : (keys keys' : List V) (v : V) → items v ≡ name → true ≡ not (list_any (λ key. bytes_eq name (items key)) keys) → keys' ≡ (if list_any (λ key. bytes_eq name (items key)) keys then keys else keys ++ v ∷ [])
      → map items keys' ≡ map items keys ++ name ∷ []
  name_added keys keys' v same new is =
      ap (map items) (insert_by (list_any (λ key. bytes_eq name (items key)) keys) keys keys' v is (not_true (list_any (λ key. bytes_eq name (items key)) keys) new))
      ∙ map-append items keys (v ∷ []) ∙ ap (λ own. map items keys ++ own ∷ []) same

  pub still_different : (keys : List V) → true ≡ not (list_any (λ key. bytes_eq name (items key)) keys) → AreDifferent (map items keys) → AreDifferent (map items keys ++ name ∷ [])
  unfolding has_it
  still_different keys new different =
      all_pairs_push (λ a b. a ≢ b) (map items keys) name different (λ i d within. none_equal keys (not_true (list_any (λ key. bytes_eq name (items key)) keys) new) i d within)

  pub name_stood : (keys keys' : List V) (v : V) → false ≡ not (list_any (λ key. bytes_eq name (items key)) keys) → keys' ≡ (if list_any (λ key. bytes_eq name (items key)) keys then keys else keys ++ v ∷ [])
      → Contains (map items keys) name × (length keys' ≡ length (map items keys))
  unfolding has_it
  name_stood keys keys' v old is =
      let some = not_false (list_any (λ key. bytes_eq name (items key)) keys) old in
      (some_equal keys some, ap length (stays_by (list_any (λ key. bytes_eq name (items key)) keys) keys keys' v is some) ∙ sym (length-map keys items))

pub first_twice : (names before rest : List (List ℕ)) (name : List ℕ) (n : ℕ) → before ++ name ∷ rest ≡ names → n ≡ length before → Contains before name → AreDifferent before → IsFirstTwice names n
first_twice names before rest name n all place has different = subst (IsFirstTwice names) (sym place) (subst (λ l. IsFirstTwice l (length before)) all (record {
  name = name;
  is_at = slice_get-get_or (before ++ name ∷ rest) (length before) name (omega (arith, length-append before (name ∷ rest))) ∙ ap Some (get_or-append_seam before name rest name);
  earlier = subst (λ l. Contains l name) (sym (take-append_seam before (name ∷ rest))) has;
  others = subst AreDifferent (sym (take-append_seam before (name ∷ rest))) different;
}))
