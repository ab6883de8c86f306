-- What contracts see of an updater, what is true of each, and what its looks lead to.
use Rattle.std.specs.Prelude.{◌≡◌, ◌≢◌, ◌⊎◌, ℕ, ◌+◌, ◌-◌, ◌<◌, ◌≤◌, ◌==◌, if◌then◌else◌, List, [], ◌∷◌, ◌++◌, length, take, All, Bool, true, false, not, ◌&&◌, ◌||◌, Option, Some, None, is_some}
use Rattle.std.specs.Bool.{MatchBool}
use Rattle.atomic_table.specs.Seated.{TableId}
use Rattle.sk_model.specs.Entries.{Entry, entries_by}
use Rattle.sk_model.specs.Missing.{Begins, longer}
use Rattle.sk_model.specs.Width.{AreItems}
use Rattle.sk_model.specs.Limits.{most_size, most_updaters, most_kept, IsFrom}
use Rattle.sk_compose.specs.Buffers.{Contents, IsBuffer}
use Rattle.sk_machine.specs.Coarse.{IsEntry}
use Rattle.sk_machine.specs.declared.views.Mine.{Mine}
use Rattle.sk_machine.specs.declared.views.Move.TheVariants.{Look, Hand}
use Rattle.sk_machine.specs.declared.views.Post.TheVariants.{Updater}
use Rattle.sk_machine.specs.declared.views.Duty.TheVariants.{Free}
use Rattle.sk_machine.specs.declared.views.View.{View}
use Rattle.sk_gate.specs.Slots.{contents, Telling, TellsList}
use Rattle.sk_gate.specs.Views.{size_of, mine_of, is_open}
use Rattle.sk_gate.specs.Moves.{looked_mine, handed_mine}
use Rattle.sk_gate.specs.Hands.{Own, no_own, is_empty, SeatState}

pub record UpdaterState : Type 0 where
  -- what its seat knows, and of which table it is
  pub view : View
  pub table : TableId
  pub number : ℕ
  -- how many items its buffers hold at most
  pub size : ℕ
  -- the items in its fill buffer
  pub fill : List ℕ
  pub hint : ℕ
  -- it holds a told value
  pub news : Bool
  -- how many items its last hand handed over
  pub last : ℕ
  -- the shape is eager
  pub eager : Bool

-- ---- its lists

abbrev pub handed_of : UpdaterState → List ℕ
handed_of u = (mine_of u.view).handed

-- the published list that its hint is of
abbrev pub base_of : UpdaterState → List Entry
base_of u = (mine_of u.view).base

-- the items whose updates were kept, in order
abbrev pub kept_of : UpdaterState → List ℕ
kept_of u = handed_of u ++ u.fill

-- what it had handed over before its last hand
abbrev pub earlier_of : UpdaterState → List ℕ
earlier_of u = take (length (handed_of u) - u.last) (handed_of u)

-- ---- what is true of every updater

-- the view of updater i: what it has seen are items of the table's updaters, of its own only such as it handed over;
-- its base is the beginning of that, and after a look that renewed the base has all that it handed over
pub record IsViewOf (i : ℕ) (v : View) : Type 0 where
  pub post : v.post ≡ Updater i (mine_of v)
  pub entries : All (IsEntry (length v.sizes)) v.seen
  pub own : Begins (entries_by i v.seen) (mine_of v).handed
  pub based : Begins (mine_of v).base v.seen
  pub settled : (mine_of v).ready ≡ true → entries_by i (mine_of v).base ≡ (mine_of v).handed
  pub items : AreItems (mine_of v).handed

-- whatever was called before
pub record IsWholeUpdater (hint_of : List ℕ → List Entry → ℕ) (u : UpdaterState) : Type 0 where
  pub view : IsViewOf u.number u.view
  -- it knows of all updaters of its table that there are, and of itself how large its buffers are
  pub within : u.number < length u.view.sizes
  pub few : length u.view.sizes ≤ most_updaters
  pub slots : u.table.slots ≡ length u.view.sizes + 1
  pub size_known : size_of u.view u.number ≡ u.size
  pub size : IsFrom 1 most_size u.size
  pub fill : length u.fill ≤ u.size
  pub items : AreItems (kept_of u)
  pub most : length (kept_of u) ≤ most_kept
  pub last : u.last ≤ u.size
  pub hint_is : u.hint ≡ hint_of u.view.numbers (base_of u)

-- it holds a told value where it did, and no hand came since; or where something was handed over before its last hand
abbrev pub HoldsTold : UpdaterState → UpdaterState → Type 0
HoldsTold u u' = ((u'.news ≡ u.news) × (handed_of u' ≡ handed_of u) × (u'.last ≡ u.last)) ⊎ (u'.news ≡ not (is_empty (earlier_of u')))

-- ---- what the fields of every updater hold

-- the fill buffer; there is none while its items lie in the slot
abbrev pub items_in : Option Contents → List ℕ
items_in None = []
items_in (Some buffer) = buffer.items

abbrev pub state_of : {T : Type 0} → SeatState → ℕ → ℕ → Option Contents → Option T → ℕ → ℕ → Bool → UpdaterState
state_of s number size fill told hint last eager = record { view = s.view; table = s.table; number = number; size = size; fill = items_in fill; hint = hint; news = is_some told; last = last; eager = eager }

-- its own slot between two calls: an empty parcel while it has the slot, with a told value if it handed something over
abbrev pub own_at_rest : ℕ → Mine → Own
own_at_rest size mine = if mine.ready then record { items = []; capacity = size; told = not (is_empty mine.handed) } else no_own

-- a told value tells a list with exactly these items of updater i, where its kind tells any
abbrev pub TellsItems : {T : Type 0} → Telling T → List ℕ → ℕ → List ℕ → T → Type 0
TellsItems k name i items t = (list : List Entry) × (entries_by i list ≡ items) × TellsList k name t list

-- a seat that neither propagates nor has anything of the propagator
pub record IsFree (s : SeatState) : Type 0 where
  pub duty : s.view.duty ≡ Free
  pub filled : s.filled ≡ false
  pub lifted : s.lifted ≡ false

pub record IsUpdater {T : Type 0} (hint_of : List ℕ → List Entry → ℕ) (k : Telling T) (s : SeatState) (number updaters size : ℕ) (fill : Option Contents) (told : Option T) (hint taken last : ℕ) : Type 0 where
  pub number_is : s.number ≡ number
  pub view : IsViewOf number s.view
  pub free : IsFree s
  pub own : s.own ≡ own_at_rest size (mine_of s.view)
  pub within : number < updaters
  pub few : updaters ≤ most_updaters
  pub slots : s.table.slots ≡ updaters + 1
  pub sized : length s.view.sizes ≡ updaters
  pub size_is : size_of s.view number ≡ size
  pub fill_is : fill ≡ Some (contents (items_in fill) size)
  pub buffer : IsBuffer (contents (items_in fill) size)
  pub hint_is : hint ≡ hint_of s.view.numbers (mine_of s.view).base
  pub taken_is : taken ≡ length ((mine_of s.view).handed ++ items_in fill)
  pub most : taken ≤ most_kept
  pub last_is : last ≤ size
  pub told_is : (t : T) → told ≡ Some t → TellsItems k s.view.name number (take (length (mine_of s.view).handed - last) (mine_of s.view).handed) t

-- ---- its looks

-- a look that loaded 0: something was handed over that is not in the base
pub record LooksInVain (u u' : UpdaterState) : Type 0 where
  pub state : u' ≡ record u { view = record u.view { steps = u.view.steps ++ Look u.number 0 ∷ [] } }
  pub unready : (mine_of u.view).ready ≡ false
  pub closed : is_open u.number u.view.steps ≡ false
  pub more : length (entries_by u.number (base_of u)) < length (handed_of u)

-- a number other than 0 was loaded: it is the hint of the new base, which has all that was handed over, and so has
-- what is seen
pub record IsRenewed (hint_of : List ℕ → List Entry → ℕ) (u u' : UpdaterState) : Type 0 where
  pub lower : u'.hint ≢ 0
  pub hint_is : u'.hint ≡ hint_of u.view.numbers (base_of u')
  pub grows : Begins (base_of u) (base_of u')
  pub sees : Begins u.view.seen u'.view.seen
  pub based : Begins (base_of u') u'.view.seen
  pub all : entries_by u.number (base_of u') ≡ handed_of u
  pub sees_all : entries_by u.number u'.view.seen ≡ handed_of u

-- a look that renewed the hint
pub record Renews (hint_of : List ℕ → List Entry → ℕ) (u u' : UpdaterState) : Type 0 where
  pub renewed : IsRenewed hint_of u u'
  pub view : u'.view ≡ record u.view { seen = longer u.view.seen (base_of u'); steps = u.view.steps ++ Look u.number u'.hint ∷ []; post = Updater u.number (looked_mine (mine_of u.view) (base_of u')) }
  pub state : u' ≡ record u { view = u'.view; hint = u'.hint }

-- a look that renewed the hint, and a hand: the fill buffer was handed over, and has these items now. There is a told
-- value exactly where something had been handed over before
pub record HandsOver (hint_of : List ℕ → List Entry → ℕ) (u : UpdaterState) (fill : List ℕ) (u' : UpdaterState) : Type 0 where
  pub renewed : IsRenewed hint_of u u'
  pub view : u'.view ≡ record u.view { seen = longer u.view.seen (base_of u'); steps = u.view.steps ++ Look u.number u'.hint ∷ Hand u.number ∷ []; post = Updater u.number (handed_mine (looked_mine (mine_of u.view) (base_of u')) u.fill) }
  pub state : u' ≡ record u { view = u'.view; fill = fill; hint = u'.hint; news = not (is_empty (handed_of u)); last = length u.fill }

-- ---- an update

abbrev pub with_item : UpdaterState → ℕ → UpdaterState
with_item u item = record u { fill = u.fill ++ item ∷ [] }

abbrev pub with_items : UpdaterState → List ℕ → UpdaterState
with_items u items = record u { fill = u.fill ++ items }

-- after an item was put into the buffer it is handed over where it is full, or where few items are published yet
abbrev pub is_due : (ℕ → Bool) → UpdaterState → Bool
is_due early u = (length u.fill == u.size) || (u.eager && early u.hint)

-- the item was put into the buffer, and stays there; a look came exactly where the buffer was due
pub record Keeps (early : ℕ → Bool) (u : UpdaterState) (item : ℕ) (u' : UpdaterState) : Type 0 where
  pub room : length u.fill < u.size
  pub looks : MatchBool (is_due early (with_item u item)) (LooksInVain (with_item u item) u') (u' ≡ with_item u item)

-- the full buffer was handed over, and the item put into the emptied one; or the item came into the buffer first
abbrev pub HandsWith : (ℕ → Bool) → (List ℕ → List Entry → ℕ) → UpdaterState → ℕ → UpdaterState → Type 0
HandsWith early hint_of u item u' = ((length u.fill ≡ u.size) × HandsOver hint_of u (item ∷ []) u')
    ⊎ ((length u.fill < u.size) × (is_due early (with_item u item) ≡ true) × HandsOver hint_of (with_item u item) [] u')
