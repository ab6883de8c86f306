-- What it means that an updater was drained, and that one was admitted.
use Rattle.std.specs.Prelude.{◌≡◌, ◌≢◌, ℕ, suc, ◌<◌, List, [], ◌∷◌, ◌++◌, length, replicate, All, Contains, Bool, not, true, false, slice_set}
use Rattle.std.specs.Bool.{MatchBool}
use Rattle.sk_model.specs.Entries.{Entry, entries_by}
use Rattle.sk_model.specs.Missing.{Begins}
use Rattle.sk_machine.specs.Coarse.{IsEntry}
use Rattle.sk_machine.specs.declared.views.Move.TheVariants.{Look, Ask, Split, Join}
use Rattle.sk_machine.specs.declared.views.View.{View}
use Rattle.sk_gate.specs.Views.{known_of, mine_of}
use Rattle.sk_gate.specs.Hands.{is_empty}
use Rattle.sk_hub.specs.Updaters.{UpdaterState, base_of, kept_of}
use Rattle.sk_hub.specs.Calls.{KeepsNone}
use Rattle.sk_hub.specs.Hearts.{HeartState}
use Rattle.sk_hub.specs.Rounds.{Refuses, KnowsAsMuch, TriesTimes}

-- the published list has exactly what the updater kept, and the heart knows it; it has seen what the updater had
pub record IsDrained (h : HeartState) (u : UpdaterState) (h' : HeartState) : Type 0 where
  pub seen : entries_by u.number h'.view.seen ≡ kept_of u
  pub grows : Begins h.view.seen h'.view.seen
  pub hears : Begins u.view.seen h'.view.seen
  pub base : Begins (base_of u) h'.view.seen
  pub entries : All (IsEntry h.updaters) h'.view.seen
  pub known : known_of h'.view u.number ≡ kept_of u
  pub others : (i : ℕ) → i ≢ u.number → known_of h'.view i ≡ known_of h.view i
  pub drained : h'.view.drained ≡ h.view.drained ++ u.number ∷ []
  pub news : h'.news ≡ slice_set h.news u.number (not (is_empty (kept_of u)))
  pub stays : h' ≡ record h { view = h'.view; news = h'.news }
  pub numbers : h'.view.numbers ≡ h.view.numbers
  pub name : h'.view.name ≡ h.view.name

-- what a heart knows of an updater that it took in, whatever it has done since: exactly what the updater kept. The
-- published list has all of that, and begins with the updater's base and with what the updater had seen
pub record HasTakenIn (h : HeartState) (u : UpdaterState) : Type 0 where
  pub drained : Contains h.view.drained u.number
  pub known : known_of h.view u.number ≡ kept_of u
  pub kept : Begins (kept_of u) (entries_by u.number h.view.seen)
  pub base : Begins (base_of u) h.view.seen
  pub hears : Begins u.view.seen h.view.seen

-- it served this updater, or waited, then took its seat in, and asked
pub record ServesAndTakesIn (i : ℕ) (v w : View) : Type 0 where
  pub times : ℕ
  pub before : View
  pub tries : TriesTimes i times v before
  pub word : ℕ
  pub steps : w.steps ≡ before.steps ++ Join ∷ Ask word ∷ []

-- it served updater i, or waited, until a batch was refused
pub record TriesInVain (i : ℕ) (v w : View) : Type 0 where
  pub times : ℕ
  pub before : View
  pub tries : TriesTimes i times v before
  pub refuses : Refuses before i 1 w

-- nothing is in its buffer, and its last look renewed its base, which has all that it handed over
pub record IsSettled (u : UpdaterState) : Type 0 where
  pub fill : u.fill ≡ []
  pub ready : (mine_of u.view).ready ≡ true

-- what an updater came back with, after it ran out of memory: it has kept nothing more, and knows no more sizes
pub record ComesBack (u u' : UpdaterState) : Type 0 where
  pub none : KeepsNone u u'
  pub sizes : u'.view.sizes ≡ u.view.sizes

-- the heart tried to serve this updater until something was done, or until a batch was refused. It knows no more of
-- updaters, and this one comes back
pub record TriesUntil (done : Bool) (h : HeartState) (u : UpdaterState) (h' : HeartState) (u' : UpdaterState) : Type 0 where
  pub ends : MatchBool done ((times : ℕ) × TriesTimes u.number times h.view h'.view) (TriesInVain u.number h.view h'.view)
  pub known : KnowsAsMuch h.view h'.view
  pub stays : h' ≡ record h { view = h'.view }
  pub back : ComesBack u u'

-- an updater of the heart's table that has seen and kept nothing
pub record IsNew (hint_of : List ℕ → List Entry → ℕ) (number size : ℕ) (h : HeartState) (u : UpdaterState) : Type 0 where
  pub number_is : u.number ≡ number
  pub size_is : u.size ≡ size
  pub table : u.table ≡ h.table
  pub name : u.view.name ≡ h.view.name
  pub within : u.number < h.updaters
  pub sized : length u.view.sizes ≡ h.updaters
  pub kept : kept_of u ≡ []
  pub base : base_of u ≡ []
  pub seen : u.view.seen ≡ []
  pub known : (i : ℕ) → known_of u.view i ≡ []
  pub steps : u.view.steps ≡ replicate (suc number) Split ++ Look number u.hint ∷ []
  pub ready : (mine_of u.view).ready ≡ true
  pub hint_is : u.hint ≡ hint_of h.view.numbers []
  pub numbers : u.view.numbers ≡ h.view.numbers
  pub news : u.news ≡ false
  pub eager : u.eager ≡ h.eager
