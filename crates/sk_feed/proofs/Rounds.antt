-- Blocks that are fed in threads.
use Rattle.std.proofs.Common.{◌≡◌, ℕ, ◌+◌, ◌-◌, ◌<◌, ◌≤◌, Bool, List, [], ◌∷◌, length, get_or, drop, slice_range, map, Result, Ok, Err, OnOk, OnErr, IfOk, IsOk, IsErr, sym, ap, subst, ◌∙◌, arith}
use Rattle.std.proofs.lemmas.Bool.{false≢true}
use Rattle.std.proofs.lemmas.List.{get_or-map, length-map, length-take-le, length-drop, take-take, take_all}
use Rattle.sk_model.specs.Entries.{Entry}
use Rattle.sk_hub.specs.Updaters.{UpdaterState, kept_of}
use Rattle.sk_read.specs.declared.kind.Kind.{Kind}
use Rattle.sk_fill.specs.Blocks.{place_of, block_of}
use Rattle.sk_fill.specs.Windows.{items_in}
use Rattle.sk_hub.specs.Calls.{Takes}
use Rattle.sk_feed.specs.Rounds.{HaveRoom, TakesFront, TakeBlocks, TakeFronts}
use Rattle.sk_fill.proofs.Blocks.{places_within}
use Rattle.sk_model.specs.Limits.{most_kept}

-- how many lines a block has
pub block_length : (lines : List (List ℕ)) (i n : ℕ) → i < n → length (block_of lines i n) ≡ place_of (length lines) (i + 1) n - place_of (length lines) i n
block_length lines i n within =
    let from = place_of (length lines) i n in let to = place_of (length lines) (i + 1) n in
    let end : to ≤ length lines = places_within (length lines) (i + 1) n (omega arith) in
    length-take-le (to - from) (drop from lines) (omega (arith, length-drop from lines))

pub block_within : (lines : List (List ℕ)) (i n : ℕ) → i < n → length (block_of lines i n) ≤ length lines
block_within lines i n within = let to = places_within (length lines) (i + 1) n (omega arith) in omega (arith, block_length lines i n within)

-- it took the lines of its block up to a place
pub takes_to : (keeps : ℕ → ℕ → Bool) (hint_of : List ℕ → List Entry → ℕ) (kind : Kind) (lines : List (List ℕ)) (i n place : ℕ) (u u' : UpdaterState) → i < n → place_of (length lines) i n ≤ place → place ≤ place_of (length lines) (i + 1) n
    → Takes keeps hint_of u (items_in kind (slice_range lines (place_of (length lines) i n) place)) u' → TakesFront keeps hint_of kind (block_of lines i n) u u'
takes_to keeps hint_of kind lines i n place u u' within low high taken =
    let from = place_of (length lines) i n in let to = place_of (length lines) (i + 1) n in
    let many : place - from ≤ to - from = omega arith in
    (place - from, omega (arith, block_length lines i n within), subst (λ l. Takes keeps hint_of u (items_in kind l) u') (sym (take-take (place - from) (to - from) (drop from lines) many)) taken)

-- who took all lines took the first of them
pub takes_all : (keeps : ℕ → ℕ → Bool) (hint_of : List ℕ → List Entry → ℕ) (kind : Kind) (lines : List (List ℕ)) (u u' : UpdaterState) → Takes keeps hint_of u (items_in kind lines) u' → TakesFront keeps hint_of kind lines u u'
takes_all keeps hint_of kind lines u u' taken =
    (length lines, omega arith, subst (λ l. Takes keeps hint_of u (items_in kind l) u') (sym (take_all (length lines) lines (omega arith))) taken)

-- what holds of the members of two lists, place by place, of what f makes of them
pub of_images : {A B : Type 0} (f : A → B) (R : ℕ → B → B → Type 0) (xs ys : List A) → length ys ≡ length xs → ((i : ℕ) (d : A) → i < length xs → R i (f (get_or xs i d)) (f (get_or ys i d)))
    → (i : ℕ) (d : B) → i < length (map f xs) → R i (get_or (map f xs) i d) (get_or (map f ys) i d)
of_images f R [] ys same each i d within = let no : ⊥ = omega arith in absurd no
of_images f R (x ∷ xs) ys same each i d within =
    let inside : i < length (x ∷ xs) = omega (arith, length-map (x ∷ xs) f) in
    let inside' : i < length ys = omega arith in
    subst (λ z. R i z (get_or (map f ys) i d)) (sym (get_or-map f (x ∷ xs) i x d inside)) (subst (λ z. R i (f (get_or (x ∷ xs) i x)) z) (sym (get_or-map f ys i x d inside')) (each i x inside))

-- ---- the outcomes of all

pub ok_then : {T E P Q : Type 0} (r : Result T E) → OnOk r P → (P → Q) → OnOk r Q
ok_then (Ok x) p f = f p
ok_then (Err e) p f = tt

pub err_then : {T E P Q : Type 0} (r : Result T E) → OnErr r P → (P → Q) → OnErr r Q
err_then (Ok x) p f = tt
err_then (Err e) p f = f p

pub ok_gives : {T E P : Type 0} (r : Result T E) → IsOk r → OnOk r P → P
ok_gives (Ok x) is p = p
ok_gives (Err e) is p = absurd (false≢true is)

err_gives : {T E P : Type 0} (r : Result T E) → IsErr r → OnErr r P → P
err_gives (Ok x) is p = absurd (false≢true is)
err_gives (Err e) is p = p

-- one of them, and so the cause
pub one_refused : {A T E P : Type 0} (fed : A → Result T E) (ys : List A) → ((i : ℕ) × (i < length ys) × ((d : A) → IsErr (fed (get_or ys i d)))) → ((i : ℕ) (d : A) → i < length ys → OnErr (fed (get_or ys i d)) P) → P
one_refused fed [] some each = let no : ⊥ = omega (arith, some.1) in absurd no
one_refused fed (y ∷ ys) some each = err_gives (fed (get_or (y ∷ ys) some.0 y)) (some.2 y) (each some.0 y some.1)

-- the room of the updater at a place
pub room_at : {A : Type 0} (f : A → UpdaterState) (lines : List (List ℕ)) (xs : List A) (i : ℕ) (x : A) → i < length xs → x ≡ get_or xs i x → HaveRoom lines (map f xs) → length (kept_of (f x)) + length (block_of lines i (length xs)) ≤ most_kept
room_at f lines xs i x inside is room =
    let at = room i (f x) (omega (arith, length-map xs f)) in
    subst (λ n. length (kept_of (f x)) + length (block_of lines i n) ≤ most_kept) (length-map xs f)
    (subst (λ u. length (kept_of u) + length (block_of lines i (length (map f xs))) ≤ most_kept) (get_or-map f xs i x (f x) inside ∙ ap f (sym is)) at)

pub all_take : {A T E : Type 0} (f : A → UpdaterState) (fed : A → Result T E) (keeps : ℕ → ℕ → Bool) (hint_of : List ℕ → List Entry → ℕ) (kind : Kind) (lines : List (List ℕ)) (xs ys : List A) → length ys ≡ length xs
    → ((i : ℕ) (d : A) → i < length ys → IsOk (fed (get_or ys i d)))
    → ((i : ℕ) (d : A) → i < length xs → OnOk (fed (get_or ys i d)) (Takes keeps hint_of (f (get_or xs i d)) (items_in kind (block_of lines i (length xs))) (f (get_or ys i d))))
    → TakeBlocks keeps hint_of kind lines (map f xs) (map f ys)
all_take f fed keeps hint_of kind lines xs ys same all each =
    let takes : (i : ℕ) → ℕ → UpdaterState → UpdaterState → Type 0 = λ i n u u'. Takes keeps hint_of u (items_in kind (block_of lines i n)) u' in
    of_images f (λ i. takes i (length (map f xs))) xs ys same
    (λ i d inside. subst (λ n. takes i n (f (get_or xs i d)) (f (get_or ys i d))) (sym (length-map xs f)) (ok_gives (fed (get_or ys i d)) (all i d (omega arith)) (each i d inside)))

pub all_front : {A : Type 0} (f : A → UpdaterState) (keeps : ℕ → ℕ → Bool) (hint_of : List ℕ → List Entry → ℕ) (kind : Kind) (lines : List (List ℕ)) (xs ys : List A) → length ys ≡ length xs
    → ((i : ℕ) (d : A) → i < length xs → TakesFront keeps hint_of kind (block_of lines i (length xs)) (f (get_or xs i d)) (f (get_or ys i d)))
    → TakeFronts keeps hint_of kind lines (map f xs) (map f ys)
all_front f keeps hint_of kind lines xs ys same each = record {
  count = length-map ys f ∙ same ∙ sym (length-map xs f);
  each = of_images f (λ i. TakesFront keeps hint_of kind (block_of lines i (length (map f xs)))) xs ys same
      (λ i d inside. subst (λ n. TakesFront keeps hint_of kind (block_of lines i n) (f (get_or xs i d)) (f (get_or ys i d))) (sym (length-map xs f)) (each i d inside));
}

-- ---- its block

pub front_taken : {E : Type 0} (keeps : ℕ → ℕ → Bool) (hint_of : List ℕ → List Entry → ℕ) (kind : Kind) (lines : List (List ℕ)) (i n from to : ℕ) (u u' : UpdaterState) (r : Result ℕ E) → i < n → from ≡ place_of (length lines) i n → to ≡ place_of (length lines) (i + 1) n
    → IfOk r (λ place. (from ≤ place) × (place ≤ to)) → IfOk r (λ place. Takes keeps hint_of u (items_in kind (slice_range lines from place)) u')
    → OnErr r ((place : ℕ) × (from ≤ place) × (place ≤ to) × Takes keeps hint_of u (items_in kind (slice_range lines from place)) u')
    → TakesFront keeps hint_of kind (block_of lines i n) u u'
front_taken keeps hint_of kind lines i n from to u u' (Ok place) within low high inside taken refused =
    takes_to keeps hint_of kind lines i n place u u' within (subst (λ p. p ≤ place) low inside.0) (subst (λ p. place ≤ p) high inside.1) (subst (λ p. Takes keeps hint_of u (items_in kind (slice_range lines p place)) u') low taken)
front_taken keeps hint_of kind lines i n from to u u' (Err e) within low high inside taken refused =
    takes_to keeps hint_of kind lines i n refused.0 u u' within (subst (λ p. p ≤ refused.0) low refused.1) (subst (λ p. refused.0 ≤ p) high refused.2) (subst (λ p. Takes keeps hint_of u (items_in kind (slice_range lines p refused.0)) u') low refused.3)
