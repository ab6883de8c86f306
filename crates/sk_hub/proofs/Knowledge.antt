-- What a seat knows of updaters, after it has taken in another.
use Rattle.std.proofs.Common.{◌≡◌, ◌≢◌, ℕ, zero, suc, ◌+◌, ◌<◌, if◌then◌else◌, List, [], ◌∷◌, ◌++◌, length, get_or, Contains, refl, sym, subst, ap, ◌∙◌, arith, get_or-set_same, get_or-set_other}
use Rattle.std.proofs.lemmas.List.Elements.{Contains-append_right}
use Rattle.std.specs.Prelude.{slice_index_or}
use Rattle.sk_machine.specs.declared.views.Post.{Post}
use Rattle.sk_machine.specs.declared.views.Post.TheVariants.{Guest, Updater}
use Rattle.std.proofs.lemmas.Bool.{eq-eqb, ne_eqb}
use Rattle.atomic_table.specs.Seated.{TableId}
use Rattle.sk_machine.specs.declared.views.View.{View}
use Rattle.sk_gate.specs.Views.{merged, sizes_merged, known_with, known_of, size_of, mine_of, blanks, told_on, sizes_on, copy_of, after_join}
use Rattle.sk_gate.specs.Moves.{AsksAt}
use Rattle.sk_gate.specs.Hands.{TokenState}
use Rattle.sk_gate.proofs.Merged.{blank_at, blanks_length, sizes_either, sizes_length}
use Rattle.sk_gate.proofs.Copies.{only_here, only_else, copied_length}
use Rattle.sk_hub.specs.Replies.{IsReading, known_size}
use Rattle.sk_model.specs.Entries.{Entry}
use Rattle.sk_model.specs.Missing.{longer}

longer_all : {A : Type 0} (ys : List A) → ys ≡ longer [] ys
longer_all [] = refl
longer_all (y ∷ ys) = grind arith

longer_own : {A : Type 0} (xs : List A) → xs ≡ longer xs []
longer_own xs = grind arith

-- at each place the longer of both stands
pub merged_at : {A : Type 0} (xs ys : List (List A)) (i : ℕ) → slice_index_or (merged xs ys) i [] ≡ longer (slice_index_or xs i []) (slice_index_or ys i [])
unfolding merged
merged_at [] ys i = longer_all (slice_index_or ys i [])
merged_at (x ∷ xs) [] i = longer_own (slice_index_or (x ∷ xs) i [])
merged_at (x ∷ xs) (y ∷ ys) zero = refl
merged_at (x ∷ xs) (y ∷ ys) (suc i) = merged_at xs ys i

-- what a note knows is taken over where it is more
pub known_with_note : (known others : List (List ℕ)) (post : Post) (i : ℕ) → post ≡ Guest → slice_index_or (known_with known others post) i [] ≡ longer (slice_index_or known i []) (slice_index_or others i [])
known_with_note known others post i guest = ap (λ p. slice_index_or (known_with known others p) i []) guest ∙ merged_at known others i

-- a seat that took in another has heard of both lists
pub hears_own : {A : Type 0} (heard more : List A) (x y : A) → Contains (heard ++ x ∷ y ∷ more) x
hears_own heard more x y = Contains-append_right heard (x ∷ y ∷ more) x (0, omega arith, refl)

pub hears_other : {A : Type 0} (heard more : List A) (x y : A) → Contains (heard ++ x ∷ y ∷ more) y
hears_other heard more x y = Contains-append_right heard (x ∷ y ∷ more) y (1, omega arith, refl)

-- ---- sizes

pub sizes_at : (xs ys : List ℕ) (i : ℕ) → slice_index_or (sizes_merged xs ys) i 0 ≡ known_size (slice_index_or xs i 0) (slice_index_or ys i 0)
sizes_at xs ys i = sizes_either (λ z. z ≡ known_size (slice_index_or xs i 0) (slice_index_or ys i 0)) xs ys i
    (λ known. ap (λ c. if c then slice_index_or ys i 0 else slice_index_or xs i 0) (sym (ne_eqb (slice_index_or xs i 0) 0 known)))
    (λ none. ap (λ c. if c then slice_index_or ys i 0 else slice_index_or xs i 0) (sym (eq-eqb (slice_index_or xs i 0) 0 none)))

-- ---- a note of an updater's view

module _ (v : View) (i : ℕ) (post : v.post ≡ Updater i (mine_of v)) where
  pub note_known : i < length v.sizes → known_of (copy_of v) i ≡ (mine_of v).handed
  note_known within =
      let wide : i < length (blanks {A = ℕ} (length v.sizes)) = subst (λ n. i < n) (sym (blanks_length ℕ (length v.sizes))) within in
      ap (λ p. get_or (told_on (length v.sizes) v.known p) i []) post ∙ get_or-set_same (blanks (length v.sizes)) i (mine_of v).handed [] wide

  pub note_others : (j : ℕ) → j ≢ i → known_of (copy_of v) j ≡ []
  note_others j ne = ap (λ p. get_or (told_on (length v.sizes) v.known p) j []) post ∙ get_or-set_other (blanks (length v.sizes)) i j (mine_of v).handed [] ne ∙ blank_at (length v.sizes) j

  pub note_size : size_of (copy_of v) i ≡ size_of v i
  note_size = ap (λ p. get_or (sizes_on v.sizes p) i 0) post ∙ only_here v.sizes i

  pub note_sizes : (j : ℕ) → j ≢ i → size_of (copy_of v) j ≡ 0
  note_sizes j ne = ap (λ p. get_or (sizes_on v.sizes p) j 0) post ∙ only_else v.sizes i j ne

  pub note_reads : (table : TableId) → table.slots ≡ length v.sizes + 1 → IsReading record { view = copy_of v; table = table }
  note_reads table slots = record { post = refl; duty = refl; slots = slots ∙ ap (λ n. n + 1) (sym (copied_length v.sizes v.post)) }

-- ---- a token that met a note, and asked

module _ (packed : List ℕ → List Entry → ℕ) (t n j a : TokenState) (word : ℕ) (token : IsReading t) (note : IsReading n) (table : n.table ≡ t.table) (joins : j ≡ record t { view = after_join t.view n.view }) (asks : AsksAt packed j.view word a.view) (stays : a.table ≡ j.table) where
  same_count : length n.view.sizes ≡ length t.view.sizes
  same_count =
      let here : t.table.slots ≡ length t.view.sizes + 1 = token.slots in
      let there : n.table.slots ≡ length n.view.sizes + 1 = note.slots in
      let same : n.table.slots ≡ t.table.slots = ap (λ x. x.slots) table in
      omega arith

  sizes_are : a.view.sizes ≡ sizes_merged t.view.sizes n.view.sizes
  sizes_are = ap (λ v. v.sizes) asks.view ∙ ap (λ r. r.view.sizes) joins

  pub met_sized : length a.view.sizes ≡ length t.view.sizes
  met_sized = ap (λ l. length l) sizes_are ∙ sizes_length (length t.view.sizes) t.view.sizes n.view.sizes refl same_count

  pub met_sizes : (i : ℕ) → size_of a.view i ≡ known_size (size_of t.view i) (size_of n.view i)
  met_sizes i = ap (λ l. slice_index_or l i 0) sizes_are ∙ sizes_at t.view.sizes n.view.sizes i

  pub met_reads : IsReading a
  met_reads = record {
    post = ap (λ v. v.post) asks.view ∙ ap (λ r. r.view.post) joins ∙ token.post;
    duty = ap (λ v. v.duty) asks.view ∙ ap (λ r. r.view.duty) joins ∙ token.duty;
    slots = ap (λ x. x.slots) (stays ∙ ap (λ r. r.table) joins) ∙ token.slots ∙ ap (λ z. z + 1) (sym met_sized);
  }
