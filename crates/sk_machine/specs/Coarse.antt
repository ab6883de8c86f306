-- The machine of all interleavings as a shared table shows it (Rinberg and others, PPoPP 2020, the concurrent
-- theta sketch). It has no fill buffers. Ready and swapped are one state, so are found and holding, and so are
-- published and put.
use Rattle.std.specs.Prelude.{◌≡◌, ◌≢◌, ℕ, ◌+◌, ◌^◌, ◌<◌, ◌≤◌, List, [], ◌++◌, length, Bool, true, false, All}
use Rattle.sk_model.specs.Entries.{Entry, entries_by, tagged}
use Rattle.sk_model.specs.Missing.{Begins}
use Rattle.sk_machine.specs.Numbered.{put}
use Rattle.sk_machine.specs.declared.views.Mine.{Mine}
use Rattle.sk_machine.specs.declared.views.Stage.{Stage}
use Rattle.sk_machine.specs.declared.views.Stage.TheVariants.{Idle, Busy, Published}
use Rattle.sk_model.specs.Width.{IsItem, AreItems}
use Rattle.sk_model.specs.Limits.{most_kept}

-- most entries that all updaters hand over
abbrev pub most_entries : ℕ
most_entries = 2 ^ 46

-- what a table shows of an updater
pub record CoarseUpdater : Type 0 where
  -- its word: 0 from a hand to the next give_back, else the hint given back
  pub word : ℕ
  -- the published list as of the last give_back
  pub given : List Entry
  -- the batch in the slot, where the word is 0 and the propagator is not at this updater
  pub waiting : List ℕ
  pub mine : Mine

pub record Coarse : Type 0 where
  pub published : List Entry
  pub stage : Stage
  -- 0, or one more than the number of the seat that propagates
  pub turn : ℕ
  -- the size of each updater's buffers, 0 where it is not admitted
  pub sizes : ℕ → ℕ
  pub updaters : ℕ → CoarseUpdater

-- an entry of an updater below n
abbrev pub IsEntry : ℕ → Entry → Type 0
IsEntry n entry = (entry.0 < n) × IsItem entry.1

-- the propagator is at updater i
abbrev pub At : Stage → ℕ → Type 0
At Idle i = ⊥
At (Busy k batch) i = k ≡ i
At (Published k) i = k ≡ i

-- the turn may be yielded
abbrev pub MayRest : Stage → Type 0
MayRest Idle = Unit {0}
MayRest (Busy k batch) = Unit {0}
MayRest (Published k) = ⊥

-- a batch that has left its updater has 1 to b items
abbrev pub IsBatch : ℕ → List ℕ → Type 0
IsBatch b batch = (1 ≤ length batch) × (length batch ≤ b)

module _ (b : ℕ) (published : List Entry) (i : ℕ) (u : CoarseUpdater) where
  -- all that the updater handed over is published, but for this batch
  abbrev pub IsBehindBy : List ℕ → Type 0
  IsBehindBy batch = IsBatch b batch × (u.mine.handed ≡ entries_by i published ++ batch)

  -- what holds while its word is 0
  abbrev pub IsClosed : Stage → Type 0
  IsClosed Idle = IsBehindBy u.waiting
  IsClosed (Busy k batch) = (k ≡ i → IsBehindBy batch) × (k ≢ i → IsBehindBy u.waiting)
  IsClosed (Published k) = (k ≡ i → u.mine.handed ≡ entries_by i published) × (k ≢ i → IsBehindBy u.waiting)

-- the invariant of one updater; hint: that of a list, b: the size of its buffers
pub record MeetsUpdater (hint : List Entry → ℕ) (b : ℕ) (published : List Entry) (stage : Stage) (i : ℕ) (u : CoarseUpdater) : Type 0 where
  pub given_is : Begins u.given published
  pub base_is : Begins u.mine.base u.given
  pub open_hint : u.word ≢ 0 → u.word ≡ hint u.given
  pub open_given : u.word ≢ 0 → entries_by i u.given ≡ u.mine.handed
  pub open_all : u.word ≢ 0 → entries_by i published ≡ u.mine.handed
  pub open_apart : u.word ≢ 0 → ¬ At stage i
  pub closed_ready : u.word ≡ 0 → u.mine.ready ≡ false
  pub closed_rested : u.word ≡ 0 → u.mine.rested ≡ false
  pub ready_base : u.mine.ready ≡ true → u.mine.base ≡ u.given
  pub closed_more : u.word ≡ 0 → length (entries_by i u.given) < length u.mine.handed
  pub closed : u.word ≡ 0 → IsClosed b published i u stage
  pub items : AreItems u.mine.handed
  pub few : length u.mine.handed ≤ most_kept
  -- an updater that is not admitted
  pub vacant : b ≡ 0 → (u.mine.handed ≡ []) × (u.mine.ready ≡ false)

-- the invariant of a machine with n updaters
pub record Meets (hint : List Entry → ℕ) (n : ℕ) (m : Coarse) : Type 0 where
  pub entries : All (IsEntry n) m.published
  pub stage_at : (i : ℕ) → At m.stage i → i < n
  pub turn_within : m.turn ≤ n + 1
  pub turn_free : m.turn ≡ 0 → MayRest m.stage
  pub each : (i : ℕ) → i < n → MeetsUpdater hint (m.sizes i) m.published m.stage i (m.updaters i)

-- the start: nothing is published, and nobody has handed anything over
abbrev pub blank_mine : Mine
blank_mine = record { handed = []; base = []; ready = false; rested = false; picked = false }

abbrev pub coarse_start : (List Entry → ℕ) → (ℕ → ℕ) → ℕ → Coarse
coarse_start hint sizes turn =
    record { published = []; stage = Idle; turn = turn; sizes = sizes; updaters = λ i. record { word = hint []; given = []; waiting = []; mine = blank_mine } }

-- the machine after an event

-- the updater i has found its word other than 0
abbrev pub after_look : ℕ → Coarse → Coarse
after_look i m =
    let u = m.updaters i in
    record m { updaters = put m.updaters i (record u { mine = record { handed = u.mine.handed; base = u.given; ready = true; rested = false; picked = u.mine.picked } }) }

-- it hands a batch over
abbrev pub after_hand : ℕ → List ℕ → Coarse → Coarse
after_hand i batch m =
    let u = m.updaters i in
    record m { updaters = put m.updaters i (record { word = 0; given = u.given; waiting = batch; mine = record { handed = u.mine.handed ++ batch; base = u.mine.base; ready = false; rested = false; picked = false } }) }

-- it gives its slot back at a look, with a parcel that was picked or was not
abbrev pub after_rest : ℕ → Bool → Coarse → Coarse
after_rest i picked m =
    let u = m.updaters i in
    record m { updaters = put m.updaters i (record u { mine = record { handed = u.mine.handed; base = u.mine.base; ready = false; rested = true; picked = picked } }) }

-- the propagator has found the word of updater i to be 0
abbrev pub after_find : ℕ → Coarse → Coarse
after_find i m = record m { stage = Busy i (m.updaters i).waiting }

abbrev pub after_publish : ℕ → List ℕ → Coarse → Coarse
after_publish i batch m = record m { published = m.published ++ tagged i batch; stage = Published i }

abbrev pub after_give_back : ℕ → ℕ → Coarse → Coarse
after_give_back i word m =
    let u = m.updaters i in
    record m { stage = Idle; updaters = put m.updaters i (record u { word = word; given = m.published }) }

-- the seat s has the turn
abbrev pub after_turn : ℕ → Coarse → Coarse
after_turn s m = record m { turn = s + 1 }

abbrev pub after_yield : Coarse → Coarse
after_yield m = record m { turn = 0 }

-- the updater i has buffers of b items from now on
abbrev pub after_admit : ℕ → ℕ → Coarse → Coarse
after_admit i b m = record m { sizes = put m.sizes i b }
