-- What it means that a token met notes of updaters, one after another, and that these met notes of the token.
use Rattle.std.specs.Prelude.{◌≡◌, ◌≢◌, ◌⊎◌, ℕ, ◌<◌, ◌≤◌, List, [], ◌∷◌, ◌++◌, length, replicate, slice_index_or}
use Rattle.sk_model.specs.Entries.{Entry, entries_by}
use Rattle.sk_model.specs.Missing.{Begins}
use Rattle.sk_machine.specs.declared.views.Move.{Move}
use Rattle.sk_machine.specs.declared.views.Move.TheVariants.{Join, Ask, Split}
use Rattle.sk_gate.specs.Views.{known_of, size_of, after_split}
use Rattle.sk_gate.specs.Hands.{TokenState}
use Rattle.sk_hub.specs.Updaters.{UpdaterState, base_of, handed_of}
use Rattle.sk_feed.specs.Hubs.{TokenGoesOn, IsLeft}
use Rattle.sk_count.specs.Hubs.{MeetsNotes}

-- the updater, of which a note was split off
abbrev pub noted : UpdaterState → UpdaterState
noted u = record u { view = after_split u.view }

-- the token knows of an updater no more than that has handed over, and its size or none
pub record MayMeet (t : TokenState) (u : UpdaterState) : Type 0 where
  pub table : u.table ≡ t.table
  pub known : Begins (known_of t.view u.number) (handed_of u)
  pub size : (size_of t.view u.number ≡ 0) ⊎ (size_of t.view u.number ≡ u.size)

-- so it is with these updaters, each at its place
pub record MayMeetAll (t : TokenState) (us : List UpdaterState) : Type 0 where
  pub number : (i : ℕ) (d : UpdaterState) → i < length us → (slice_index_or us i d).number ≡ i
  pub each : (i : ℕ) (d : UpdaterState) → i < length us → MayMeet t (slice_index_or us i d)

-- the token met a note of this updater
pub record Meets (t : TokenState) (u : UpdaterState) (t' : TokenState) : Type 0 where
  pub goes : TokenGoesOn t t'
  pub based : Begins (base_of u) t'.view.seen
  pub fill : length u.fill ≤ u.size
  pub known : known_of t'.view u.number ≡ handed_of u
  pub others : (i : ℕ) → i ≢ u.number → known_of t'.view i ≡ known_of t.view i
  pub size : size_of t'.view u.number ≡ u.size
  pub sizes : (i : ℕ) → i ≢ u.number → size_of t'.view i ≡ size_of t.view i
  pub steps : (word : ℕ) × (t'.view.steps ≡ t.view.steps ++ Join ∷ Ask word ∷ [])

-- it met a note of each of the first so many
pub record MeetsFirst (t : TokenState) (us : List UpdaterState) (n : ℕ) (t' : TokenState) : Type 0 where
  pub goes : TokenGoesOn t t'
  pub bases : (i : ℕ) (d : UpdaterState) → i < n → Begins (base_of (slice_index_or us i d)) t'.view.seen
  pub fills : (i : ℕ) (d : UpdaterState) → i < n → length (slice_index_or us i d).fill ≤ (slice_index_or us i d).size
  pub known : (i : ℕ) (d : UpdaterState) → i < n → known_of t'.view i ≡ handed_of (slice_index_or us i d)
  pub others : (i : ℕ) → n ≤ i → known_of t'.view i ≡ known_of t.view i
  pub size : (i : ℕ) (d : UpdaterState) → i < n → size_of t'.view i ≡ (slice_index_or us i d).size
  pub sizes : (i : ℕ) → n ≤ i → size_of t'.view i ≡ size_of t.view i
  pub steps : (steps : List Move) × MeetsNotes n steps × (t'.view.steps ≡ t.view.steps ++ steps)

-- a note was split off of each of the first so many
pub record AreNoted (us : List UpdaterState) (n : ℕ) (us' : List UpdaterState) : Type 0 where
  pub count : length us' ≡ length us
  pub first : (i : ℕ) (d : UpdaterState) → i < n → slice_index_or us' i d ≡ noted (slice_index_or us i d)
  pub others : (i : ℕ) (d : UpdaterState) → n ≤ i → slice_index_or us' i d ≡ slice_index_or us i d

-- the token, of which n notes were split off
abbrev pub split_off : ℕ → TokenState → TokenState
split_off n t = record t { view = record t.view { steps = t.view.steps ++ replicate n Split } }

-- an updater met a note of a token that had seen this list: it is left as it was, and has seen the list, which has of its
-- own items only what it had handed over
pub record Hears (list : List Entry) (u u' : UpdaterState) : Type 0 where
  pub left : IsLeft u u'
  pub seen : Begins list u'.view.seen
  pub own : Begins (entries_by u.number list) (handed_of u)

-- so did each of the first so many
pub record FirstHear (list : List Entry) (us : List UpdaterState) (n : ℕ) (us' : List UpdaterState) : Type 0 where
  pub count : length us' ≡ length us
  pub first : (i : ℕ) (d : UpdaterState) → i < n → Hears list (slice_index_or us i d) (slice_index_or us' i d)
  pub others : (i : ℕ) (d : UpdaterState) → n ≤ i → slice_index_or us' i d ≡ slice_index_or us i d
