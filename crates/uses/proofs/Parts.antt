-- Streams that were fed to new updaters, and the list that has what these kept.
use Rattle.std.proofs.Common.{◌≡◌, ℕ, ◌+◌, ◌<◌, Bool, List, [], ◌∷◌, ◌++◌, length, map, flat_map, get_or, slice_index, All, refl, sym, ap, subst, ◌∙◌, arith, append_assoc, length-append}
use Rattle.std.specs.List.{range_with_len}
use Rattle.std.proofs.lemmas.List.{get_or-map}
use Rattle.std.proofs.lemmas.List.Elements.{All-get_or}
use Rattle.std.proofs.lemmas.Option.{slice_get-get_or}
use Rattle.sk_model.specs.Entries.{Entry, entries_by}
use Rattle.sk_model.specs.Missing.{Begins}
use Rattle.sk_compose.specs.Kept.{AreKept}
use Rattle.sk_hub.specs.Drains.{IsNew}
use Rattle.sk_hub.specs.Hearts.{HeartState}
use Rattle.sk_hub.specs.Starts.{AreNew}
use Rattle.sk_hub.specs.Updaters.{UpdaterState, base_of, kept_of}
use Rattle.sk_feed.specs.Shares.{HasAllOf}
use Rattle.sk_hub.specs.Calls.{Takes}
use Rattle.uses.specs.Fed.{TakeEach}

-- a list with a place has some member
pub at_some : {A R : Type 0} (xs : List A) (i : ℕ) → i < length xs → (A → R) → R
at_some [] i within f = let none : ⊥ = omega arith in absurd none
at_some (x ∷ xs) i within f = f x

-- ---- parts by their places

at_length : {A : Type 0} (f : A → List ℕ) (ys : List A) (x : A) (xs : List A) → get_or (map f (ys ++ x ∷ xs)) (length ys) [] ≡ f x
at_length f [] x xs = refl
at_length f (y ∷ ys) x xs = at_length f ys x xs

from_place : {A : Type 0} (f : A → List ℕ) (ys xs : List A) → flat_map (λ i. get_or (map f (ys ++ xs)) i []) (range_with_len (length ys) (length xs)) ≡ flat_map f xs
from_place f ys [] = refl
from_place {A} f ys (x ∷ xs) =
    let part : List A → ℕ → List ℕ = λ l i. get_or (map f l) i [] in
    let joined : (ys ++ x ∷ []) ++ xs ≡ ys ++ x ∷ xs = append_assoc ys (x ∷ []) xs in
    let place : length (ys ++ x ∷ []) ≡ length ys + 1 = omega (arith, length-append ys (x ∷ [])) in
    let rest : flat_map (part (ys ++ x ∷ xs)) (range_with_len (length ys + 1) (length xs)) ≡ flat_map f xs =
    subst (λ (n : ℕ). flat_map (part (ys ++ x ∷ xs)) (range_with_len n (length xs)) ≡ flat_map f xs) place
    (subst (λ (l : List A). flat_map (part l) (range_with_len (length (ys ++ x ∷ [])) (length xs)) ≡ flat_map f xs) joined (from_place f (ys ++ x ∷ []) xs)) in
    ap (λ (l : List ℕ). l ++ flat_map (part (ys ++ x ∷ xs)) (range_with_len (length ys + 1) (length xs))) (at_length f ys x xs)
    ∙ ap (λ (l : List ℕ). f x ++ l) rest

pub all_parts : {A : Type 0} (f : A → List ℕ) (xs : List A) → flat_map (λ i. get_or (map f xs) i []) (range_with_len 0 (length xs)) ≡ flat_map f xs
all_parts f xs = from_place f [] xs

pub part_holds : {A : Type 0} (f : A → List ℕ) (P : List ℕ → Type 0) (xs : List A) (i : ℕ) → i < length xs → All (λ x. P (f x)) xs → P (get_or (map f xs) i [])
part_holds f P xs i within all = at_some xs i within (λ d. subst P (sym (get_or-map f xs i d [] within)) (All-get_or (λ x. P (f x)) xs i d within all))

-- ---- new updaters

pub new_at : (hint_of : List ℕ → List Entry → ℕ) (sizes : List ℕ) (h : HeartState) (us : List UpdaterState) → AreNew hint_of sizes h us → (i : ℕ) (d : UpdaterState) → i < length us → IsNew hint_of i (slice_index sizes i) h (get_or us i d)
new_at hint_of sizes h us new i d within = new i (get_or us i d) (slice_get-get_or us i d within)

-- ---- what was kept

pub kept_at : (keeps : ℕ → ℕ → Bool) (hint_of : List ℕ → List Entry → ℕ) (numbers : List ℕ) (list : List Entry) (i : ℕ) (items : List ℕ) (u u' : UpdaterState)
    → ((base longer : List Entry) (items kept : List ℕ) → Begins base longer → AreKept keeps (hint_of numbers) base items kept → AreKept keeps (hint_of numbers) longer items kept)
    → u.view.numbers ≡ numbers → kept_of u ≡ [] → Takes keeps hint_of u items u' → Begins (base_of u') list → entries_by i list ≡ kept_of u' → AreKept keeps (hint_of numbers) list items (entries_by i list)
kept_at keeps hint_of numbers list i items u u' stays are none t base has =
    let kept : entries_by i list ≡ t.more = has ∙ t.kept ∙ ap (λ (l : List ℕ). l ++ t.more) none in
    subst (AreKept keeps (hint_of numbers) list items) (sym kept)
    (stays (base_of u') list items t.more base (subst (λ (m : List ℕ). AreKept keeps (hint_of m) (base_of u') items t.more) are t.of_items))

-- ---- all of them

module _ (keeps : ℕ → ℕ → Bool) (hint_of : List ℕ → List Entry → ℕ) (sizes : List ℕ) (h : HeartState) (us us' : List UpdaterState) (streams : List (List ℕ)) (new : AreNew hint_of sizes h us) (taken : TakeEach keeps hint_of us streams us') (count : length us' ≡ length us) where
  pub all_at_table : All (λ u. u.table ≡ h.table) us'
  all_at_table i d within =
      let within' : i < length us = omega arith in
      (taken i d within').goes.table ∙ (new_at hint_of sizes h us new i d within').table

  pub all_numbered : (i : ℕ) (d : UpdaterState) → i < length us' → (get_or us' i d).number ≡ i
  all_numbered i d within =
      let within' : i < length us = omega arith in
      (taken i d within').goes.number ∙ (new_at hint_of sizes h us new i d within').number_is

  pub all_kept : (numbers : List ℕ) (list : List Entry) → h.view.numbers ≡ numbers → HasAllOf list us'
      → ((base longer : List Entry) (items kept : List ℕ) → Begins base longer → AreKept keeps (hint_of numbers) base items kept → AreKept keeps (hint_of numbers) longer items kept)
      → (i : ℕ) → i < length us → AreKept keeps (hint_of numbers) list (get_or streams i []) (entries_by i list)
  all_kept numbers list are has stays i within =
      let within' : i < length us' = omega arith in
      at_some us i within (λ d.
      let u = new_at hint_of sizes h us new i d within in
      kept_at keeps hint_of numbers list i (get_or streams i []) (get_or us i d) (get_or us' i d) stays (u.numbers ∙ are) u.kept (taken i d within) (has.bases i d within') (has.kept i d within'))

pub none_kept : (hint_of : List ℕ → List Entry → ℕ) (sizes : List ℕ) (h : HeartState) (us : List UpdaterState) → AreNew hint_of sizes h us → All (λ u. kept_of u ≡ []) us
none_kept hint_of sizes h us new i d within = (new_at hint_of sizes h us new i d within).kept
