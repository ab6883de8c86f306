-- The rule of the table: words, slots and views show a coarse machine that meets its invariant.
use Rattle.std.specs.Prelude.{◌≡◌, ◌≢◌, ℕ, ◌+◌, ◌<◌, ◌≤◌, List, [], length, Bool, true, false, Contains, None, slice_index, slice_index_or}
use mathlib.Core.Option.{some, none}
use mathlib.Core.Option as maybe
use lib.ListN.{get_elem?}
use Rattle.atomic_table.specs.Table.{State}
use Rattle.sk_model.specs.Entries.{Entry}
use Rattle.sk_model.specs.Missing.{Begins}
use Rattle.sk_compose.specs.declared.buffer.Parcel.{Parcel}
use Rattle.sk_machine.specs.Coarse.{CoarseUpdater, Coarse, At, Meets, blank_mine}
use Rattle.sk_machine.specs.declared.views.Stage.{Stage}
use Rattle.sk_machine.specs.declared.views.Move.{Move}
use Rattle.sk_machine.specs.declared.views.Post.{Post}
use Rattle.sk_machine.specs.declared.views.Post.TheVariants.{Guest, Root, Updater}
use Rattle.sk_machine.specs.declared.views.Duty.{Duty}
use Rattle.sk_machine.specs.declared.views.Duty.TheVariants.{Free, Leads}
use Rattle.sk_machine.specs.declared.views.View.{View}
use Rattle.sk_gate.specs.declared.load.Trunk.{Trunk}
use Rattle.sk_gate.specs.Slots.{Slot, full, trunk, word_of, turn_word, contents, room, Sketching, Telling, TellsGiven, IsTrunkOf}
use Rattle.sk_gate.specs.Views.{known_of, given_of, seat_in, leads, is_busy, is_open, SpeaksFor}

-- ---- slots

-- the slot of the updater that the propagator is at: out, or left at home without a parcel
abbrev pub left_home : {C T : Type 0} → Bool → maybe.Option (Slot C T)
left_home true = some None
left_home false = none

-- what lies in the slot of updater i, for buffers of b items
pub record IsSlot {C T : Type 0} (k : Telling T) (name : List ℕ) (b : ℕ) (stage : Stage) (left : Bool) (i : ℕ) (u : CoarseUpdater) (home : maybe.Option (maybe.Option (Slot C T))) : Type 0 where
  -- the updater has it
  pub ready : u.mine.ready ≡ true → home ≡ some none
  -- an empty parcel lies in it
  pub resting : u.word ≢ 0 → u.mine.ready ≡ false → (p : Parcel T) × (home ≡ some (some (full p))) × (p.buffer ≡ contents [] (room b)) × (u.mine.picked ≡ false → TellsGiven k name p u.mine.handed u.given)
  -- a batch lies in it
  pub waiting : u.word ≡ 0 → ¬ At stage i → (p : Parcel T) × (home ≡ some (some (full p))) × (p.buffer ≡ contents u.waiting b)
  -- the propagator has it, or has left it
  pub led : At stage i → home ≡ some (left_home left)

-- ---- seats

module _ (n : ℕ) (m : Coarse) (owner : ℕ → ℕ) (j : ℕ) (seen : List Entry) (sizes drained : List ℕ) where
  -- what the seat whose view stands at j knows of the updaters that it speaks for
  abbrev pub KnowsPost : Post → Type 0
  KnowsPost Guest = Unit {0}
  KnowsPost (Root made) = (i : ℕ) → made ≤ i → i < n → (owner i ≡ j) × (blank_mine ≡ (m.updaters i).mine) × (slice_index sizes i ≡ m.sizes i)
  KnowsPost (Updater i mine) = (i < n) × (owner i ≡ j) × (mine ≡ (m.updaters i).mine) × Begins mine.base seen × (slice_index sizes i ≡ m.sizes i) × (drained ≡ [])

module _ (n : ℕ) (m : Coarse) (left : Bool) (leader j : ℕ) (seen : List Entry) (post : Post) where
  -- what it knows as the one that propagates
  abbrev pub KnowsDuty : Duty → Type 0
  KnowsDuty Free = Unit {0}
  KnowsDuty (Leads stage its) = (leader ≡ j) × (m.turn ≡ seat_in n post + 1) × (stage ≡ m.stage) × (its ≡ left) × (seen ≡ m.published)

-- what an updater's seat knows of its word by its own steps
abbrev pub KnowsOpen : Coarse → List Move → Post → Type 0
KnowsOpen m steps Guest = Unit {0}
KnowsOpen m steps (Root made) = Unit {0}
KnowsOpen m steps (Updater i mine) = is_open i steps ≡ true → (m.updaters i).word ≢ 0

-- what it knows of an updater whose seat was joined into it
pub record KnowsTakenIn (n : ℕ) (m : Coarse) (owner : ℕ → ℕ) (j : ℕ) (known picked : List ℕ) (i : ℕ) : Type 0 where
  pub within : i < n
  pub own : owner i ≡ j
  pub all : known ≡ (m.updaters i).mine.handed
  pub given : (m.updaters i).word ≢ 0
  pub was_picked : (m.updaters i).mine.picked ≡ true → Contains picked i

-- what a view says of the table's sketch: its numbers and name, and the names of those that it took in
pub record KnowsSketch (numbers name : List ℕ) (its_numbers its_name : List ℕ) (names : List (List ℕ)) : Type 0 where
  pub numbers_are : its_numbers ≡ numbers
  pub name_is : its_name ≡ name
  pub names_are : (x : List ℕ) → Contains names x → x ≡ name

-- of how large buffers are, where it says it: at least of each updater that it knows items of
pub record KnowsSizes (n : ℕ) (real : ℕ → ℕ) (sizes : List ℕ) (known : List (List ℕ)) : Type 0 where
  pub sized : length sizes ≡ n
  pub sizes_are : (i : ℕ) → slice_index sizes i ≢ 0 → slice_index sizes i ≡ real i
  pub known_with_size : (i : ℕ) → slice_index_or known i [] ≢ [] → slice_index sizes i ≢ 0

-- of lists, each of which the machine's begins with
pub record KnowsLists (n : ℕ) (published : List Entry) (updaters : ℕ → CoarseUpdater) (seen : List Entry) (heard : List (List Entry)) (known : List (List ℕ)) (given : List (List Entry)) : Type 0 where
  pub known_sized : length known ≡ n
  pub given_sized : length given ≡ n
  pub seen_is : Begins seen published
  pub heard_is : (h : List Entry) → Contains heard h → Begins h published
  pub known_is : (i : ℕ) → Begins (slice_index_or known i []) (updaters i).mine.handed
  pub given_is : (i : ℕ) → Begins (slice_index_or given i []) (updaters i).given

-- what a live view, which stands at j, says of the machine
pub record Knows (n : ℕ) (numbers name : List ℕ) (m : Coarse) (left : Bool) (owner : ℕ → ℕ) (leader j : ℕ) (v : View) : Type 0 where
  pub sketch : KnowsSketch numbers name v.numbers v.name v.names
  pub sizes : KnowsSizes n m.sizes v.sizes v.known
  pub lists : KnowsLists n m.published m.updaters v.seen v.heard v.known v.given
  pub post_is : KnowsPost n m owner j v.seen v.sizes v.drained v.post
  pub duty_is : KnowsDuty n m left leader j v.seen v.post v.duty
  pub open_is : KnowsOpen m v.steps v.post
  pub drained_is : (i : ℕ) → Contains v.drained i → KnowsTakenIn n m owner j (known_of v i) v.picked i

-- a view has this place, and says this
abbrev pub Has : List View → ℕ → (View → Type 0) → Type 0
Has views j says = (v : View) × (get_elem? views j ≡ some v) × says v

abbrev pub HasSeen : List Entry → View → Type 0
HasSeen list v = (v.live ≡ true) × (v.seen ≡ list)

abbrev pub IsLed : View → Type 0
IsLed v = (v.live ≡ true) × (leads v.duty ≡ true)

abbrev pub HasGiven : ℕ → List Entry → View → Type 0
HasGiven i list v = (v.live ≡ true) × (given_of v i ≡ list)

-- ---- the table

-- hint, packed: the hint and the word of a list, for sketches with these numbers
pub record KeepsRule {C T : Type 0} (hint packed : List ℕ → List Entry → ℕ) (g : Sketching C) (k : Telling T) (s : State (Slot C T) View) : Type 0 where
  -- how many updaters there are, and the fixed numbers and the name of the sketch
  pub n : ℕ
  pub numbers : List ℕ
  pub name : List ℕ
  pub machine : Coarse
  -- the propagator has left the slot of the updater that it is at
  pub left : Bool
  -- the places of views: of the seat that speaks for an updater, of the one that holds the turn, of one that has
  -- seen the whole published list, and of one that recorded what was last given back to an updater
  pub owner : ℕ → ℕ
  pub leader : ℕ
  pub seer : ℕ
  pub giver : ℕ → ℕ
  pub wide : length s.words ≡ n + 2
  pub deep : length s.homes ≡ n + 1
  pub published_is : slice_index s.words 0 ≡ packed numbers machine.published
  pub turn_is : slice_index s.words (turn_word n) ≡ machine.turn
  pub words_are : (i : ℕ) → i < n → slice_index s.words (word_of i) ≡ (machine.updaters i).word
  pub meets : Meets (hint numbers) n machine
  -- nothing was ever given back to an updater that is not admitted
  pub vacant : (i : ℕ) → i < n → machine.sizes i ≡ 0 → (machine.updaters i).given ≡ []
  pub each_slot : (i : ℕ) → i < n → IsSlot k name (machine.sizes i) machine.stage left i (machine.updaters i) (get_elem? s.homes i)
  pub rests : machine.turn ≡ 0 → (t : Trunk C T) × (get_elem? s.homes n ≡ some (some (trunk t))) × IsTrunkOf g numbers name machine.published machine.stage machine.sizes t × (is_busy machine.stage ≡ true → left ≡ true)
  pub led : machine.turn ≢ 0 → (get_elem? s.homes n ≡ some none) × Has s.views leader IsLed
  pub seen : Has s.views seer (HasSeen machine.published)
  pub given : (i : ℕ) → i < n → Has s.views (giver i) (HasGiven i (machine.updaters i).given)
  pub spoken : (i : ℕ) → i < n → Has s.views (owner i) (SpeaksFor i)
  pub each_seat : (j : ℕ) (v : View) → get_elem? s.views j ≡ some v → v.live ≡ true → Knows n numbers name machine left owner leader j v
