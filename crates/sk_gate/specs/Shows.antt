-- What the table shows at every moment between two steps: a state of the whole machine that meets its whole invariant.
use Rattle.std.specs.Prelude.{◌≡◌, ◌≢◌, ◌⊎◌, ℕ, ◌+◌, ◌<◌, ◌≤◌, List, [], length, true, Contains, None, slice_index}
use mathlib.Core.Option.{some, none}
use mathlib.Core.Option as maybe
use lib.ListN.{get_elem?}
use Rattle.atomic_table.specs.Table.{State}
use Rattle.sk_model.specs.Entries.{Entry}
use Rattle.sk_model.specs.Missing.{Begins}
use Rattle.sk_compose.specs.declared.buffer.Parcel.{Parcel}
use Rattle.sk_machine.specs.Fine.{FineUpdater, Fine}
use Rattle.sk_machine.specs.Invariant.{Invariant, IsAt, is_ready, coarse_of}
use Rattle.sk_machine.specs.Shown.{IsView, token_of}
use Rattle.sk_machine.specs.declared.states.Mark.TheVariants.{Neither}
use Rattle.sk_machine.specs.declared.views.Post.{Post}
use Rattle.sk_machine.specs.declared.views.Post.TheVariants.{Guest, Root, Updater}
use Rattle.sk_machine.specs.declared.views.Duty.{Duty}
use Rattle.sk_machine.specs.declared.views.Duty.TheVariants.{Free, Leads}
use Rattle.sk_machine.specs.declared.views.View.{View}
use Rattle.sk_gate.specs.declared.load.Trunk.{Trunk}
use Rattle.sk_gate.specs.Slots.{Slot, full, trunk, word_of, turn_word, contents, room, Sketching, Telling, TellsGiven, IsTrunkOf}
use Rattle.sk_gate.specs.Views.{known_of, given_of, size_of, mine_of, seat_in, leads, SpeaksFor}
use Rattle.sk_gate.specs.Rule.{Has, HasSeen, IsLed, HasGiven}

-- the words are the machine's
pub record ShowsWords (words : List ℕ) (f : Fine) : Type 0 where
  pub count : length words ≡ f.n + 2
  pub published : slice_index words 0 ≡ f.word
  pub updaters : (i : ℕ) → i < f.n → slice_index words (word_of i) ≡ (f.updaters i).word
  pub turn : slice_index words (turn_word f.n) ≡ f.turn

-- ---- slots

abbrev pub IsPickedBy : ℕ → Post → Type 0
IsPickedBy i Guest = ⊥
IsPickedBy i (Root made) = ⊥
IsPickedBy i (Updater k mine) = (k ≡ i) × (mine.picked ≡ true)

-- the told value of the parcel that updater i gave back was picked out: its seat says so, or the one that took it in
abbrev pub IsPicked : List View → ℕ → Type 0
IsPicked views i = (j : ℕ) × (v : View) × IsView views j v × (v.live ≡ true) × (Contains v.picked i ⊎ IsPickedBy i v.post)

-- a parcel lies in a slot
abbrev pub HasParcel : {C T : Type 0} → maybe.Option (maybe.Option (Slot C T)) → Parcel T → Type 0
HasParcel home p = home ≡ some (some (full p))

-- the slot of updater i
pub record ShowsSlot {C T : Type 0} (k : Telling T) (name : List ℕ) (views : List View) (f : Fine) (i : ℕ) (u : FineUpdater) (home : maybe.Option (maybe.Option (Slot C T))) : Type 0 where
  -- the updater has it, or the propagator that is at the updater has it or has left it, or else a parcel lies in it
  pub taken : u.mark ≢ Neither → home ≡ some none
  pub led : IsAt f.progress i → (home ≡ some none) ⊎ (home ≡ some (some None))
  pub lies : u.mark ≡ Neither → ¬ IsAt f.progress i → (p : Parcel T) × HasParcel home p
  -- with the items that the machine has there
  pub items : (p : Parcel T) → HasParcel home p → (u.home ≡ true) × (p.buffer ≡ contents u.slot (room u.size))
  -- and, where it was given back, with a told value exactly if something was handed over, of the list given with it
  pub told : (p : Parcel T) → HasParcel home p → u.word ≢ 0 → ¬ IsPicked views i → TellsGiven k name p u.handed u.given

-- the trunk's slot: whoever holds the turn has it, or else the trunk lies in it, with a sketch of the published list
pub record ShowsTrunk {C T : Type 0} (g : Sketching C) (numbers name : List ℕ) (f : Fine) (home : maybe.Option (maybe.Option (Slot C T))) : Type 0 where
  pub taken : f.turn ≢ 0 → home ≡ some none
  pub lies : f.turn ≡ 0 → (t : Trunk C T) × (home ≡ some (some (trunk t))) × IsTrunkOf g numbers name f.published (coarse_of f).stage (coarse_of f).sizes t

-- ---- seats

-- what a seat knows of those that it speaks for: of updaters yet to be given out that they handed nothing over, of its
-- own lists all; and how large their buffers are, 0 before they are admitted
abbrev pub KnowsOwn : Fine → View → Post → Type 0
KnowsOwn f v Guest = Unit {0}
KnowsOwn f v (Root made) = (i : ℕ) → made ≤ i → i < f.n → ((f.updaters i).handed ≡ []) × (size_of v i ≡ (f.updaters i).size)
KnowsOwn f v (Updater i mine) = let u = f.updaters i in
    (i < f.n) × (mine.handed ≡ u.handed) × (mine.base ≡ u.base) × (mine.ready ≡ is_ready u.mark) × Begins mine.base v.seen × (size_of v i ≡ u.size)

-- a seat leads where the turn has its number, knows where the machine is, and has seen all
abbrev pub LeadsBy : Fine → View → Duty → Type 0
LeadsBy f v Free = Unit {0}
LeadsBy f v (Leads stage left) = (f.turn ≡ seat_in f.n v.post + 1) × (stage ≡ (coarse_of f).stage) × (v.seen ≡ f.published)

-- of an updater that was taken in a seat knows all that was handed over, and none of it waits
pub record KnowsDrained (f : Fine) (known : List ℕ) (i : ℕ) : Type 0 where
  pub within : i < f.n
  pub all : known ≡ (f.updaters i).handed
  pub given : (f.updaters i).word ≢ 0

-- a view says beginnings of what the machine has
pub record ShowsView (numbers name : List ℕ) (f : Fine) (v : View) : Type 0 where
  pub numbers_are : v.numbers ≡ numbers
  pub name_is : v.name ≡ name
  pub seen : Begins v.seen f.published
  pub heard : (h : List Entry) → Contains v.heard h → Begins h f.published
  pub names : (x : List ℕ) → Contains v.names x → x ≡ name
  pub known : (i : ℕ) → i < f.n → Begins (known_of v i) (f.updaters i).handed
  pub given : (i : ℕ) → i < f.n → Begins (given_of v i) (f.updaters i).given
  pub sizes : (i : ℕ) → i < f.n → size_of v i ≢ 0 → size_of v i ≡ (f.updaters i).size
  pub own : KnowsOwn f v v.post
  pub duty : LeadsBy f v v.duty
  pub drained : (i : ℕ) → Contains v.drained i → KnowsDrained f (known_of v i) i

-- a seat that was not taken in by another
abbrev pub IsLiveSeat : List View → ℕ → View → Type 0
IsLiveSeat views j v = IsView views j v × (v.live ≡ true)

pub record ShowsSeats (numbers name : List ℕ) (f : Fine) (views : List View) : Type 0 where
  pub each : (j : ℕ) (v : View) → IsLiveSeat views j v → ShowsView numbers name f v
  -- they are the machine's tokens
  pub made : f.made ≡ length views
  pub tokens : (j : ℕ) (v : View) → IsView views j v → f.tokens j ≡ token_of v
  -- one leads where the turn is held, and no two
  pub leader : f.turn ≢ 0 → (j : ℕ) × Has views j IsLed
  pub one_leads : (a b : ℕ) (v w : View) → IsLiveSeat views a v → IsLiveSeat views b w → leads v.duty ≡ true → leads w.duty ≡ true → a ≡ b
  -- one speaks for each updater, and no two are of one updater
  pub spoken : (i : ℕ) → i < f.n → (j : ℕ) × Has views j (SpeaksFor i)
  pub one_own : (i a b : ℕ) (v w : View) → IsLiveSeat views a v → IsLiveSeat views b w → v.post ≡ Updater i (mine_of v) → w.post ≡ Updater i (mine_of w) → a ≡ b
  -- what is published was seen, and what was given back was recorded
  pub seen : (j : ℕ) × Has views j (HasSeen f.published)
  pub given : (i : ℕ) → i < f.n → (j : ℕ) × Has views j (HasGiven i (f.updaters i).given)

-- hint, packed: the hint and the word of a list, for sketches with these numbers
pub record Shown {C T : Type 0} (hint packed : List ℕ → List Entry → ℕ) (g : Sketching C) (k : Telling T) (s : State (Slot C T) View) : Type 0 where
  -- the fixed numbers and the name of the sketch
  pub numbers : List ℕ
  pub name : List ℕ
  pub machine : Fine
  pub invariant : Invariant (hint numbers) (packed numbers) machine
  pub words : ShowsWords s.words machine
  pub count : length s.homes ≡ machine.n + 1
  pub slots : (i : ℕ) → i < machine.n → ShowsSlot k name s.views machine i (machine.updaters i) (get_elem? s.homes i)
  pub trunk_is : ShowsTrunk g numbers name machine (get_elem? s.homes machine.n)
  pub seats : ShowsSeats numbers name machine s.views

-- whenever a table keeps a rule, of what was given to it when it was made
abbrev pub AlwaysShown : {C T A : Type 0} → (List ℕ → List Entry → ℕ) → (List ℕ → List Entry → ℕ) → Sketching C → Telling T → (A → State (Slot C T) View → Type 0) → Type 0
AlwaysShown {C} {T} {A} hint packed g k holds = (about : A) (s : State (Slot C T) View) → holds about s → Shown hint packed g k s
