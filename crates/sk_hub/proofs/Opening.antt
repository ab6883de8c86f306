-- A hub whose updaters are all to be admitted, and one updater more that is admitted.
use Rattle.std.proofs.Common.{◌≡◌, ◌⊎◌, inl, inr, ℕ, zero, suc, ◌+◌, ◌<◌, ◌≤◌, List, [], ◌∷◌, ◌++◌, length, replicate, map, get_or, Bool, false, Option, Some, None, is_some, subst, sym, ap, refl, ◌∙◌, arith, length-append, add-one}
use Rattle.std.proofs.lemmas.List.{length-replicate}
use Rattle.std.proofs.lemmas.List.Elements.{All-nil}
use Rattle.std.specs.Prelude.{slice_get, slice_index, slice_index_or}
use Rattle.atomic_table.specs.Seated.{TableId}
use Rattle.sk_model.specs.Entries.{Entry}
use Rattle.sk_compose.specs.declared.buffer.Parcel.{Parcel}
use Rattle.sk_machine.specs.Coarse.{blank_mine, IsEntry}
use Rattle.sk_machine.specs.declared.views.Move.TheVariants.{Split}
use Rattle.sk_machine.specs.declared.views.Post.TheVariants.{Root, Updater}
use Rattle.sk_machine.specs.declared.views.View.{View}
use Rattle.sk_gate.specs.Slots.{Telling}
use Rattle.sk_gate.specs.Views.{known_of, size_of, admitted_sizes}
use Rattle.sk_gate.specs.Starts.{empty_handed, blank_of, blank_view, IsMade}
use Rattle.sk_gate.specs.Moves.{IsSeen}
use Rattle.sk_gate.specs.Hands.{SeatState, TokenState}
use Rattle.sk_hub.specs.Updaters.{IsFree, UpdaterState}
use Rattle.sk_hub.specs.Hearts.{HeartState, heart_of, IsVacant, AreVacant, IsHeart}
use Rattle.sk_hub.specs.Drains.{IsNew}
use Rattle.sk_hub.specs.Starts.{IsNewHeart, IsNewToken, AreNew}
use Rattle.sk_model.specs.Limits.{most_updaters}

-- ---- lists of one element

same_at : {A : Type 0} (n i : ℕ) (x : A) → get_or (replicate n x) i x ≡ x
same_at zero i x = refl
same_at (suc n) zero x = refl
same_at (suc n) (suc i) x = same_at n i x

none_held : (T : Type 0) (n : ℕ) → map (λ (t : Option T). is_some t) (replicate n None) ≡ replicate n false
none_held T zero = refl
none_held T (suc n) = ap (λ l. false ∷ l) (none_held T n)

all_zero : {T : Type 0} (parcels : List (Parcel T)) → admitted_sizes 0 parcels ≡ replicate (length parcels) 0
all_zero [] = refl
all_zero (p ∷ ps) = ap (λ l. 0 ∷ l) (all_zero ps)

pub no_sizes : {T : Type 0} (n : ℕ) (parcels : List (Parcel T)) → length parcels ≡ n → admitted_sizes 0 parcels ≡ replicate n 0
no_sizes n parcels count = all_zero parcels ∙ ap (λ z. replicate z 0) count

pub one_longer : {A : Type 0} (xs more : List A) (x : A) (n : ℕ) → more ≡ xs ++ x ∷ [] → length xs ≡ n → length more ≡ n + 1
one_longer xs more x n is count = ap (λ l. length l) is ∙ length-append xs (x ∷ []) ∙ ap (λ z. z + 1) count

-- ---- seats that are vacant

abbrev new_seat : View → TableId → ℕ → SeatState
new_seat v table i = empty_handed (blank_of v (Updater i blank_mine) (i + 1)) table i

new_is_vacant : (n : ℕ) (v : View) (table : TableId) (i : ℕ) → length v.sizes ≡ n → size_of v i ≡ 0 → IsVacant n table v.numbers v.name i (new_seat v table i)
new_is_vacant n v table i sized none =
    let free : IsFree (new_seat v table i) = record { duty = refl; filled = refl; lifted = refl } in
    record {
      number_is = refl;
      table_is = refl;
      free = free;
      own = refl;
      post = refl;
      sized = sized;
      size = none;
      steps = ap (λ n. replicate n Split) (add-one i);
      seen = refl;
      known = λ j. same_at (length v.sizes) j [];
      numbers_are = refl;
      name_is = refl;
    }

-- such seats from this number on
new_are_vacant : (n : ℕ) (v : View) (table : TableId) (from : ℕ) (seats : List SeatState) → length v.sizes ≡ n → ((i : ℕ) → size_of v i ≡ 0)
    → ((i k : ℕ) (d : SeatState) → i < length seats → k ≡ from + i → slice_index_or seats i d ≡ new_seat v table k) → AreVacant n table v.numbers v.name from seats
new_are_vacant n v table from [] sized none are = tt
new_are_vacant n v table from (s ∷ more) sized none are =
    let first : s ≡ new_seat v table from = are 0 from s (omega arith) (omega arith) in (
      subst (λ z. IsVacant n table v.numbers v.name from z) (sym first) (new_is_vacant n v table from sized (none from)),
      new_are_vacant n v table (suc from) more sized none (λ i k d within is. are (suc i) k d (omega (arith, within)) (omega (arith, is))),
    )

-- ---- the handles

module _ {T : Type 0} (k : Telling T) (n : ℕ) (sizes numbers name : List ℕ) (heart : SeatState) (updaters : List SeatState) (token : TokenState) (told : List (Option T)) (eager : Bool)
    (made : IsMade n sizes numbers name heart updaters token) (none : sizes ≡ replicate n 0) (told_is : told ≡ replicate n None) where
  sized : length sizes ≡ n
  sized = ap (λ l. length l) none ∙ length-replicate n 0

  pub is_heart : n ≤ most_updaters → IsHeart k heart updaters told n 0
  is_heart few =
      let h = made.heart_is in
      let sizes_are : length heart.view.sizes ≡ n = ap (λ s. length s.view.sizes) h ∙ sized in
      let no_size : (i : ℕ) → size_of heart.view i ≡ 0 = λ i. ap (λ s. size_of s.view i) h ∙ ap (λ l. slice_index l i) none ∙ same_at n i 0 in
      let free : IsFree heart = record { duty = ap (λ s. s.view.duty) h; filled = ap (λ s. s.filled) h; lifted = ap (λ s. s.lifted) h } in
      let count : length updaters ≡ n = made.count in
      let first : View = blank_view sizes numbers name (Root n) (n + 1) in
      let nothing_seen : IsSeen first [] = record { entries = All-nil (IsEntry (length first.sizes)); own = tt } in
      record {
        free = free;
        few = few;
        slots = made.slots;
        sized = sizes_are;
        known_sized = ap (λ s. length s.view.known) h ∙ length-replicate (length sizes) [] ∙ sized;
        sees = subst (λ s. IsSeen s.view s.view.seen) (sym h) nothing_seen;
        told_sized = ap (λ l. length l) told_is ∙ length-replicate n None;
        all = omega arith;
        vacant_are = new_are_vacant n heart.view heart.table 0 updaters sizes_are no_size
            (λ i k d within is. let same : i ≡ k = omega arith in subst (λ z. slice_index_or updaters i d ≡ new_seat heart.view heart.table z) same (made.updaters_are i d within));
        told_is = λ i t is. let no : None ≡ Some t = sym (same_at n i None) ∙ ap (λ l. slice_index_or l i None) (sym told_is) ∙ is in absurd (cc);
      }

  pub is_new_heart : IsNewHeart n numbers name eager (heart_of heart n 0 told eager)
  is_new_heart = let h = made.heart_is in record {
    updaters = refl;
    slots = made.slots;
    sized = ap (λ s. length s.view.sizes) h ∙ sized;
    steps = ap (λ s. s.view.steps) h;
    seen = ap (λ s. s.view.seen) h;
    known = λ i. ap (λ s. known_of s.view i) h ∙ same_at (length sizes) i [];
    drained = ap (λ s. s.view.drained) h;
    news = ap (λ l. map (λ t. is_some t) l) told_is ∙ none_held T n;
    numbers_are = ap (λ s. s.view.numbers) h;
    name_is = ap (λ s. s.view.name) h;
    eager_is = refl;
  }

  pub is_new_token : IsNewToken (heart_of heart n 0 told eager) token
  is_new_token = let h = made.heart_is in let t = made.token_is in record {
    table = ap (λ r. r.table) t;
    sized = ap (λ r. length r.view.sizes) t ∙ sized;
    sizes = λ i. ap (λ r. size_of r.view i) t ∙ ap (λ l. slice_index l i) none ∙ same_at n i 0;
    steps = ap (λ r. r.view.steps) t ∙ sym (ap (λ s. s.view.steps) h);
    seen = ap (λ r. r.view.seen) t;
    known = λ i. ap (λ r. known_of r.view i) t ∙ same_at (length sizes) i [];
    numbers_are = ap (λ r. r.view.numbers) t ∙ sym (ap (λ s. s.view.numbers) h);
    name_is = ap (λ r. r.view.name) t ∙ sym (ap (λ s. s.view.name) h);
  }

-- ---- where more were admitted

abbrev with_more : HeartState → ℕ → HeartState
with_more h admitted = record h { admitted = admitted }

pub one_more : (h now next : HeartState) (admitted : ℕ) → next ≡ record now { admitted = now.admitted + 1 } → now ≡ with_more h admitted → next ≡ with_more h (admitted + 1)
one_more h now next admitted more stays = more ∙ λ a. record (stays a) { admitted = (stays a).admitted + 1 }

-- the heart stays new
pub new_heart_more : (n : ℕ) (numbers name : List ℕ) (eager : Bool) (h now : HeartState) (admitted : ℕ) → now ≡ with_more h admitted → IsNewHeart n numbers name eager h → IsNewHeart n numbers name eager now
new_heart_more n numbers name eager h now admitted stays i =
    let more : IsNewHeart n numbers name eager (with_more h admitted) = record {
      updaters = i.updaters;
      slots = i.slots;
      sized = i.sized;
      steps = i.steps;
      seen = i.seen;
      known = i.known;
      drained = i.drained;
      news = i.news;
      numbers_are = i.numbers_are;
      name_is = i.name_is;
      eager_is = i.eager_is;
    } in
    subst (IsNewHeart n numbers name eager) (sym stays) more

module _ (hint_of : List ℕ → List Entry → ℕ) where
  -- an updater is new of a hub however many are admitted
  is_new_of : (h : HeartState) (admitted more number size : ℕ) (u : UpdaterState) → IsNew hint_of number size (with_more h admitted) u → IsNew hint_of number size (with_more h more) u
  is_new_of h admitted more number size u i =
      record {
        number_is = i.number_is;
        size_is = i.size_is;
        table = i.table;
        name = i.name;
        within = i.within;
        sized = i.sized;
        kept = i.kept;
        base = i.base;
        seen = i.seen;
        known = i.known;
        steps = i.steps;
        ready = i.ready;
        hint_is = i.hint_is;
        numbers = i.numbers;
        news = i.news;
        eager = i.eager;
      }

-- an element of a list to which one was put
one_of_more : {A : Type 0} (xs : List A) (x : A) (i : ℕ) (y : A) → slice_get (xs ++ x ∷ []) i ≡ Some y → (slice_get xs i ≡ Some y) ⊎ ((i ≡ length xs) × (x ≡ y))
one_of_more [] x zero y is = inr (refl, cc)
one_of_more [] x (suc i) y is = inl is
one_of_more (z ∷ xs) x zero y is = inl is
one_of_more (z ∷ xs) x (suc i) y is = elim (one_of_more xs x i y is) as (λ _. (slice_get xs i ≡ Some y) ⊎ ((suc i ≡ suc (length xs)) × (x ≡ y))) [ inl there ↦ inl there | inr last ↦ inr (ap (λ j. suc j) last.0, last.1) ]

module _ (hint_of : List ℕ → List Entry → ℕ) (sizes : List ℕ) where
  pub none_new : (h : HeartState) (updaters : List UpdaterState) → updaters ≡ [] → AreNew hint_of sizes h updaters
  none_new h updaters none i u is = let no : None ≡ Some u = ap (λ l. slice_get l i) (sym none) ∙ is in absurd (cc)

  -- the next updater was admitted, of a heart that is otherwise as it was
  pub one_more_new : (h now : HeartState) (updaters more : List UpdaterState) (u : UpdaterState) (admitted : ℕ) → now ≡ with_more h admitted → length updaters ≡ admitted → more ≡ updaters ++ u ∷ []
      → IsNew hint_of now.admitted (slice_index sizes admitted) now u → AreNew hint_of sizes h updaters → AreNew hint_of sizes h more
  one_more_new h now updaters more u admitted stays count more_is new earlier i w is =
      elim (one_of_more updaters u i w (ap (λ l. slice_get l i) (sym more_is) ∙ is)) as (λ _. IsNew hint_of i (slice_index sizes i) h w) [
        | inl there ↦ earlier i w there
        | inr last ↦
            let size = slice_index sizes admitted in
            let in_hub : IsNew hint_of admitted size (with_more h admitted) u = subst (λ z. IsNew hint_of z.admitted size z u) stays new in
            let of_hub : IsNew hint_of admitted size h u = is_new_of hint_of h admitted h.admitted admitted size u in_hub in
            let at : admitted ≡ i = sym count ∙ sym last.0 in
            subst (λ z. IsNew hint_of i (slice_index sizes i) h z) last.1 (subst (λ z. IsNew hint_of z (slice_index sizes z) h u) at of_hub)
      ]

  -- they stay new
  pub are_new_more : (h now : HeartState) (updaters : List UpdaterState) (admitted : ℕ) → now ≡ with_more h admitted → AreNew hint_of sizes h updaters → AreNew hint_of sizes now updaters
  are_new_more h now updaters admitted stays new i u is = subst (λ z. IsNew hint_of i (slice_index sizes i) z u) (sym stays) (is_new_of hint_of h h.admitted admitted i (slice_index sizes i) u (new i u is))
