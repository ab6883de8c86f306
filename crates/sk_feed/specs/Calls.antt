-- What an updater did with items that it was fed, call by call.
use Rattle.std.specs.Prelude.{◌≡◌, ◌⊎◌, ℕ, zero, suc, ◌<◌, ◌≤◌, ◌&&◌, List, [], ◌∷◌, length, slice_range, slice_index_or, Bool, true, false, Option, Some, IsTrue}
use Rattle.std.specs.Bool.{MatchBool}
use Rattle.sk_model.specs.Entries.{Entry}
use Rattle.sk_hub.specs.Updaters.{UpdaterState, Keeps, HandsWith}
use Rattle.sk_hub.specs.Rounds.{Sweeps, IsElsewhere}
use Rattle.sk_hub.specs.Calls.{Takes, IsBusyWith}
use Rattle.sk_read.specs.declared.kind.Kind.{Kind}
use Rattle.sk_fill.specs.Windows.{item_in, items_in}

-- how a kind of sketch filters: whether a hint keeps an item, whether it is early, and the hint of a list
pub record Filter : Type 0 where
  pub keeps : ℕ → ℕ → Bool
  pub early : ℕ → Bool
  pub hint_of : List ℕ → List Entry → ℕ

abbrev pub filter_of : (ℕ → ℕ → Bool) → (ℕ → Bool) → (List ℕ → List Entry → ℕ) → Filter
filter_of keeps early hint_of = record { keeps = keeps; early = early; hint_of = hint_of }

-- ---- one update

-- the item is kept by the hint, and lies in a buffer
pub record Accepts (f : Filter) (u : UpdaterState) (item : ℕ) (u' : UpdaterState) : Type 0 where
  pub kept : f.keeps u.hint item ≡ true
  pub put : Keeps f.early u item u' ⊎ HandsWith f.early f.hint_of u item u'

-- the item is not kept by the hint, and nothing changed
pub record Filters (f : Filter) (u : UpdaterState) (item : ℕ) (u' : UpdaterState) : Type 0 where
  pub dropped : f.keeps u.hint item ≡ false
  pub stays : u' ≡ u

-- ---- its help

-- it took the turn, and served each updater once
pub record ServesAll (u u' : UpdaterState) : Type 0 where
  pub count : ℕ
  pub sweep : Sweeps u.view (length u.view.sizes) count u'.view
  pub stays : u' ≡ record u { view = u'.view }

-- it found the turn with another seat
pub record FindsElsewhere (u u' : UpdaterState) : Type 0 where
  pub other : ℕ
  pub found : IsElsewhere u.view other u'.view
  pub stays : u' ≡ record u { view = u'.view }

-- it found the turn with another seat this many times, and then served all
unfoldable pub ServesAfter : ℕ → UpdaterState → UpdaterState → Type 0
ServesAfter zero u u' = ServesAll u u'
ServesAfter (suc times) u u' = (v : UpdaterState) × FindsElsewhere u v × ServesAfter times v u'

-- it tried once to serve all if it is eager, and did nothing if it is not
abbrev pub HelpsIfEager : Filter → UpdaterState → UpdaterState → Type 0
HelpsIfEager f u u' = MatchBool (u.eager && f.early u.hint) (ServesAll u u' ⊎ FindsElsewhere u u') (u' ≡ u)

-- ---- feeding

-- the item was offered once, and taken
abbrev pub IsOffered : Filter → UpdaterState → ℕ → UpdaterState → Type 0
IsOffered f u item u' = Filters f u item u' ⊎ Accepts f u item u'

-- it was busy this many times, and served all each time; then the item was taken, and it helped
unfoldable pub InsistsAfter : Filter → ℕ → UpdaterState → ℕ → UpdaterState → Type 0
InsistsAfter f zero u item u' = Filters f u item u' ⊎ ((v : UpdaterState) × Accepts f u item v × HelpsIfEager f v u')
InsistsAfter f (suc times) u item u' = (v : UpdaterState) × (w : UpdaterState) × (tries : ℕ) × IsBusyWith f.keeps u item v × ServesAfter tries v w × InsistsAfter f times w item u'

-- it was fed the item: with help until it was taken, else once
abbrev pub IsFed : Filter → Bool → UpdaterState → ℕ → UpdaterState → Type 0
IsFed f help u item u' = MatchBool help ((times : ℕ) × InsistsAfter f times u item u') (IsOffered f u item u')

-- it was fed these items, in order
unfoldable pub IsFedEach : Filter → Bool → UpdaterState → List ℕ → UpdaterState → Type 0
IsFedEach f help u [] u' = u' ≡ u
IsFedEach f help u (item ∷ items) u' = (v : UpdaterState) × IsFed f help u item v × IsFedEach f help v items u'

-- it was fed items, and is busy with the one that follows
pub record IsStopped (f : Filter) (u : UpdaterState) (items : List ℕ) (next : Option ℕ) (u' : UpdaterState) : Type 0 where
  pub before : UpdaterState
  pub fed : IsFedEach f false u items before
  pub item : ℕ
  pub is_next : next ≡ Some item
  pub busy : IsBusyWith f.keeps before item u'

-- ---- the lines from one place up to another

-- it was fed the items of those before a place, and took them; with help all. A place before the end is that of the
-- line whose item it was busy with
pub record FeedsLines (f : Filter) (help : Bool) (kind : Kind) (lines : List (List ℕ)) (from to : ℕ) (u u' : UpdaterState) (place : ℕ) : Type 0 where
  pub after : from ≤ place
  pub before : place ≤ to
  pub taken : Takes f.keeps f.hint_of u (items_in kind (slice_range lines from place)) u'
  pub all : help ≡ true → place ≡ to
  pub fed : place ≡ to → IsFedEach f help u (items_in kind (slice_range lines from to)) u'
  pub busy : place < to → IsStopped f u (items_in kind (slice_range lines from place)) (item_in kind (slice_index_or lines place [])) u'

-- it took the items of those before a place, and then memory ran out while it helped
pub record RunsOutHelping (f : Filter) (takes_memory help : Bool) (kind : Kind) (lines : List (List ℕ)) (from to : ℕ) (u u' : UpdaterState) : Type 0 where
  pub place : ℕ
  pub after : from ≤ place
  pub before : place ≤ to
  pub taken : Takes f.keeps f.hint_of u (items_in kind (slice_range lines from place)) u'
  pub helping : IsTrue help
  pub cause : IsTrue takes_memory
