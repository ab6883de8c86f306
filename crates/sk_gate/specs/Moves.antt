-- What each call on a word shows: the view before, the number loaded or stored, and the view after.
use Rattle.std.specs.Prelude.{◌≡◌, ◌≢◌, ℕ, ◌+◌, ◌<◌, ◌≤◌, List, [], ◌∷◌, ◌++◌, length, Bool, true, false, All, Contains, slice_set}
use Rattle.sk_model.specs.Entries.{Entry, entries_by, tagged}
use Rattle.sk_model.specs.Missing.{Begins, LacksAtMost, longer}
use Rattle.sk_machine.specs.Coarse.{most_entries, IsEntry, IsBatch}
use Rattle.sk_machine.specs.declared.views.Mine.{Mine}
use Rattle.sk_machine.specs.declared.views.Stage.{Stage}
use Rattle.sk_machine.specs.declared.views.Stage.TheVariants.{Idle, Busy, Published}
use Rattle.sk_machine.specs.declared.views.Move.TheVariants.{Look, Hand, Find, Publish, GiveBack, Ask, Turn, Yield}
use Rattle.sk_machine.specs.declared.views.Post.{Post}
use Rattle.sk_machine.specs.declared.views.Post.TheVariants.{Guest, Root, Updater}
use Rattle.sk_machine.specs.declared.views.Duty.TheVariants.{Free, Leads}
use Rattle.sk_machine.specs.declared.views.View.{View}
use Rattle.sk_gate.specs.Views.{known_of, size_of, mine_of, leads, stage_in, left_in, batch_of, is_open}

-- ---- any seat

-- what an updater's own asks lack
abbrev pub LacksOwn : List Entry → (ℕ → ℕ) → Post → Type 0
LacksOwn seen sizes Guest = Unit {0}
LacksOwn seen sizes (Root made) = Unit {0}
LacksOwn seen sizes (Updater i mine) = LacksAtMost mine.handed (entries_by i seen) (sizes i)

-- what an updater has seen of its own it handed over
abbrev pub SeesOwn : List Entry → Post → Type 0
SeesOwn seen Guest = Unit {0}
SeesOwn seen (Root made) = Unit {0}
SeesOwn seen (Updater i mine) = Begins (entries_by i seen) mine.handed

-- a list that the table has published, as a seat with this view sees it
pub record IsSeen (v : View) (list : List Entry) : Type 0 where
  -- they are items of the table's updaters
  pub entries : All (IsEntry (length v.sizes)) list
  pub own : SeesOwn list v.post

-- an ask, which loaded the published word
pub record AsksAt (packed : List ℕ → List Entry → ℕ) (v : View) (word : ℕ) (w : View) : Type 0 where
  pub view : w ≡ record v { seen = w.seen; steps = v.steps ++ Ask word ∷ [] }
  pub grows : Begins v.seen w.seen
  pub is_seen : IsSeen v w.seen
  -- and so does what it and those had seen that it took in
  pub heard : (h : List Entry) → Contains v.heard h → Begins h w.seen
  -- those have its name
  pub named : (x : List ℕ) → Contains v.names x → x ≡ v.name
  pub value : word ≡ packed v.numbers w.seen
  pub lacks : (i : ℕ) → known_of v i ≢ [] → LacksAtMost (known_of v i) (entries_by i w.seen) (size_of v i)
  pub lacks_own : LacksOwn w.seen (size_of v) v.post
  -- whoever leads has seen all before
  pub leads : leads v.duty ≡ true → w.seen ≡ v.seen
  pub drained : (i : ℕ) → Contains v.drained i → entries_by i w.seen ≡ known_of v i

-- ---- an updater

abbrev pub looked_mine : Mine → List Entry → Mine
looked_mine mine base = record { handed = mine.handed; base = base; ready = true; rested = false; picked = mine.picked }

-- a look that loaded a number other than 0: the hint of the new base
pub record RenewsAt (hint : List ℕ → List Entry → ℕ) (v : View) (word : ℕ) (w : View) (i : ℕ) : Type 0 where
  pub view : w ≡ record v { seen = longer v.seen (mine_of w).base; steps = v.steps ++ Look i word ∷ []; post = Updater i (looked_mine (mine_of v) (mine_of w).base) }
  pub hint_is : word ≡ hint v.numbers (mine_of w).base
  pub grows : Begins (mine_of v).base (mine_of w).base
  pub sees : Begins v.seen w.seen
  pub is_seen : IsSeen v w.seen
  -- the base is a beginning of what is seen, and each has all that the updater handed over
  pub based : Begins (mine_of w).base w.seen
  pub all : entries_by i (mine_of w).base ≡ (mine_of v).handed
  pub sees_all : entries_by i w.seen ≡ (mine_of v).handed
  pub again : (mine_of v).ready ≡ true → (mine_of w).base ≡ (mine_of v).base
  pub leads : leads v.duty ≡ true → w.seen ≡ v.seen

-- a look that loaded 0: something was handed over that is not in the base
pub record WaitsAt (v : View) (word : ℕ) (w : View) (i : ℕ) : Type 0 where
  pub view : w ≡ record v { steps = v.steps ++ Look i word ∷ [] }
  pub unready : (mine_of v).ready ≡ false
  pub closed : is_open i v.steps ≡ false
  pub more : length (entries_by i (mine_of v).base) < length (mine_of v).handed

abbrev pub LooksAt : (List ℕ → List Entry → ℕ) → View → ℕ → View → ℕ → Type 0
LooksAt hint v word w i = (word ≢ 0 → RenewsAt hint v word w i) × (word ≡ 0 → WaitsAt v word w i)

-- the look by which an updater is admitted, with buffers of b items
pub record AdmitsAt (hint : List ℕ → List Entry → ℕ) (v : View) (word : ℕ) (w : View) (i b : ℕ) : Type 0 where
  pub view : w ≡ record v { steps = v.steps ++ Look i word ∷ []; post = Updater i (looked_mine (mine_of v) []); sizes = slice_set v.sizes i b }
  pub size : size_of w i ≡ b
  pub hint_is : word ≡ hint v.numbers []
  pub lower : word ≢ 0
  pub none : (mine_of v).handed ≡ []

abbrev pub handed_mine : Mine → List ℕ → Mine
handed_mine mine batch = record { handed = mine.handed ++ batch; base = mine.base; ready = false; rested = false; picked = false }

abbrev pub HandsAt : View → View → ℕ → List ℕ → Type 0
HandsAt v w i batch = w ≡ record v { steps = v.steps ++ Hand i ∷ []; post = Updater i (handed_mine (mine_of v) batch) }

-- ---- whoever propagates

-- where a turn may find the propagator: nothing is held, or a batch, whose slot was left
abbrev pub MayResume : View → Stage → Bool → Type 0
MayResume v Idle left = left ≡ false
MayResume v (Busy i batch) left = (left ≡ true) × IsBatch (size_of v i) batch × (length v.seen + length batch ≤ most_entries)
MayResume v (Published i) left = ⊥

-- it says how large the buffers are of the updater that the batch is of
abbrev pub LearnsSize : View → View → Stage → Type 0
LearnsSize v w Idle = w.sizes ≡ v.sizes
LearnsSize v w (Busy i batch) = (i < length v.sizes) × (w.sizes ≡ slice_set v.sizes i (size_of w i)) × (size_of v i ≢ 0 → size_of w i ≡ size_of v i)
LearnsSize v w (Published i) = ⊥

-- a turn that found 0
pub record TakesTurnAt (v w : View) : Type 0 where
  pub view : w ≡ record v { seen = w.seen; steps = v.steps ++ Turn 0 ∷ []; duty = Leads (stage_in w.duty) (left_in w.duty); sizes = w.sizes }
  pub grows : Begins v.seen w.seen
  pub is_seen : IsSeen v w.seen
  pub resumes : MayResume w (stage_in w.duty) (left_in w.duty)
  pub learns : LearnsSize v w (stage_in w.duty)

-- a turn that found another seat's number
pub record MissesTurnAt (v : View) (found : ℕ) (w : View) : Type 0 where
  pub view : w ≡ record v { steps = v.steps ++ Turn found ∷ [] }
  pub within : found ≤ length v.sizes + 1

abbrev pub TurnsAt : View → ℕ → View → Type 0
TurnsAt v found w = (found ≡ 0 → TakesTurnAt v w) × (found ≢ 0 → MissesTurnAt v found w)

abbrev pub YieldsAt : View → View → Type 0
YieldsAt v w = w ≡ record v { steps = v.steps ++ Yield ∷ []; duty = Free }

-- a find that loaded 0: a batch waits
pub record FindsBatchAt (v : View) (w : View) (i : ℕ) : Type 0 where
  pub view : w ≡ record v { steps = v.steps ++ Find i 0 ∷ []; duty = Leads (Busy i (batch_of w)) false; sizes = slice_set v.sizes i (size_of w i) }
  pub batch : IsBatch (size_of w i) (batch_of w)
  pub few : length v.seen + length (batch_of w) ≤ most_entries
  pub same : size_of v i ≢ 0 → size_of w i ≡ size_of v i

abbrev pub FindsAt : View → ℕ → View → ℕ → Type 0
FindsAt v word w i = (word ≢ 0 → w ≡ record v { steps = v.steps ++ Find i word ∷ [] }) × (word ≡ 0 → FindsBatchAt v w i)

abbrev pub LeavesAt : View → View → ℕ → Type 0
LeavesAt v w i = w ≡ record v { steps = v.steps ++ Find i 0 ∷ []; duty = Leads (Busy i (batch_of v)) true }

abbrev pub PublishesAt : View → ℕ → View → ℕ → Type 0
PublishesAt v word w i = w ≡ record v { seen = v.seen ++ tagged i (batch_of v); steps = v.steps ++ Publish word (length (batch_of v)) ∷ []; duty = Leads (Published i) false }

abbrev pub GivesBackAt : View → ℕ → View → ℕ → Type 0
GivesBackAt v word w i = w ≡ record v { steps = v.steps ++ GiveBack i word ∷ []; duty = Leads Idle false; given = slice_set v.given i v.seen }
