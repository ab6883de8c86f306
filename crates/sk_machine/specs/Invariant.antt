-- The invariant of the whole machine, in eight parts, and the coarse machine that shows it.
use Rattle.std.specs.Prelude.{◌≡◌, ◌≢◌, ℕ, ◌+◌, ◌<◌, ◌≤◌, List, [], ◌++◌, length, Bool, true, false, All}
use Rattle.sk_model.specs.Entries.{Entry, entries_by}
use Rattle.sk_model.specs.Missing.{Begins}
use Rattle.sk_machine.specs.Coarse.{CoarseUpdater, Coarse, IsEntry, IsBatch, Meets}
use Rattle.sk_machine.specs.Fine.{FineUpdater, Token, Fine, MayRest}
use Rattle.sk_machine.specs.declared.states.Mark.{Mark}
use Rattle.sk_machine.specs.declared.states.Mark.TheVariants.{Neither, Ready, Swapped}
use Rattle.sk_machine.specs.declared.states.Progress.{Progress}
use Rattle.sk_machine.specs.declared.states.Progress.TheVariants.{Idle, Found, Holding, Published, Put}
use Rattle.sk_machine.specs.declared.views.Stage.{Stage}
use Rattle.sk_machine.specs.declared.views.Stage.TheVariants as stages
use Rattle.sk_model.specs.Width.{AreItems}
use Rattle.sk_model.specs.Limits.{most_kept}

-- the propagator is at updater i
abbrev pub IsAt : Progress → ℕ → Type 0
IsAt Idle i = ⊥
IsAt (Found k) i = k ≡ i
IsAt (Holding k) i = k ≡ i
IsAt (Published k) i = k ≡ i
IsAt (Put k) i = k ≡ i

-- the items that lie in a slot of an updater that has swapped
abbrev pub swapped_items : Mark → List ℕ → List ℕ
swapped_items Neither slot = []
swapped_items Ready slot = []
swapped_items Swapped slot = slot

module _ (published : List Entry) (in_hand : List ℕ) (i : ℕ) (u : FineUpdater) where
  -- a batch waits in the slot at home, and all else that was handed over is published
  abbrev pub WaitsAtHome : Type 0
  WaitsAtHome = (u.home ≡ true) × IsBatch u.size u.slot × (u.handed ≡ entries_by i published ++ u.slot)

  -- where an updater is whose word is 0
  abbrev pub IsServed : Progress → Type 0
  IsServed Idle = WaitsAtHome
  IsServed (Found k) = WaitsAtHome
  IsServed (Holding k) = (k ≡ i → (u.home ≡ false) × IsBatch u.size in_hand × (u.handed ≡ entries_by i published ++ in_hand)) × (k ≢ i → WaitsAtHome)
  IsServed (Published k) = (k ≡ i → (u.home ≡ false) × (entries_by i published ≡ u.handed)) × (k ≢ i → WaitsAtHome)
  IsServed (Put k) = (k ≡ i → (u.home ≡ true) × (u.slot ≡ []) × (entries_by i published ≡ u.handed)) × (k ≢ i → WaitsAtHome)

-- part 1, of an updater: what it kept is items, and few
pub record KeepsItems (kept : List ℕ) : Type 0 where
  pub items : AreItems kept
  pub few : length kept ≤ most_kept

-- part 2: what it kept was handed over, lies in its slot, or is in its fill list
pub record HoldsKept (u : FineUpdater) : Type 0 where
  pub kept : u.kept ≡ u.handed ++ swapped_items u.mark u.slot ++ u.fill
  pub fill : length u.fill ≤ u.size
  pub swapped : u.mark ≡ Swapped → (u.fill ≡ []) × IsBatch u.size u.slot
  pub vacant : u.size ≡ 0 → (u.kept ≡ []) × (u.mark ≡ Neither)

-- part 3: its hint is that of a list that was given to it
pub record HoldsHint (hint : List Entry → ℕ) (published : List Entry) (u : FineUpdater) : Type 0 where
  pub hint_is : u.hint ≡ hint u.base
  pub base : Begins u.base u.given
  pub given : Begins u.given published

-- part 4: where its word is not 0, all that it handed over is published
pub record IsOpen (hint : List Entry → ℕ) (published : List Entry) (progress : Progress) (i : ℕ) (u : FineUpdater) : Type 0 where
  pub word : u.word ≡ hint u.given
  pub given_all : entries_by i u.given ≡ u.handed
  pub published_all : entries_by i published ≡ u.handed
  pub home : u.home ≡ true
  pub slot : u.mark ≢ Swapped → u.slot ≡ []
  pub apart : ¬ IsAt progress i

-- part 5: where its word is 0, it has handed something over, which the propagator serves
pub record IsClosed (published : List Entry) (progress : Progress) (in_hand : List ℕ) (i : ℕ) (u : FineUpdater) : Type 0 where
  pub mark : u.mark ≡ Neither
  pub handed : u.handed ≢ []
  pub served : IsServed published in_hand i u progress

-- part 7: a token has seen a beginning of the published list, and knows beginnings of what was handed over
pub record IsBehind (f : Fine) (token : Token) : Type 0 where
  pub seen : Begins token.seen f.published
  pub known : (i : ℕ) → i < f.n → Begins (token.known i) (f.updaters i).handed

-- hint, packed: the hint and the word of a list
pub record Invariant (hint packed : List Entry → ℕ) (f : Fine) : Type 0 where
  -- 1
  pub word : f.word ≡ packed f.published
  pub entries : All (IsEntry f.n) f.published
  pub items : (i : ℕ) → i < f.n → KeepsItems (f.updaters i).kept
  -- 2
  pub kept : (i : ℕ) → i < f.n → HoldsKept (f.updaters i)
  -- 3
  pub hints : (i : ℕ) → i < f.n → HoldsHint hint f.published (f.updaters i)
  -- 4
  pub opened : (i : ℕ) → i < f.n → (f.updaters i).word ≢ 0 → IsOpen hint f.published f.progress i (f.updaters i)
  -- 5
  pub closed : (i : ℕ) → i < f.n → (f.updaters i).word ≡ 0 → IsClosed f.published f.progress f.in_hand i (f.updaters i)
  -- 6
  pub ready : (i : ℕ) → i < f.n → (f.updaters i).mark ≢ Neither → (f.updaters i).word ≢ 0
  -- 7
  pub tokens : (t : ℕ) → t < f.made → (f.tokens t).live ≡ true → IsBehind f (f.tokens t)
  -- 8
  pub free : f.turn ≡ 0 → MayRest f.progress
  pub turn : f.turn ≤ f.n + 1

-- ---- the coarse machine of a whole one

abbrev pub is_ready : Mark → Bool
is_ready Neither = false
is_ready Ready = true
is_ready Swapped = true

abbrev pub coarse_updater : FineUpdater → CoarseUpdater
coarse_updater u = record { word = u.word; given = u.given; waiting = u.slot; mine = record { handed = u.handed; base = u.base; ready = is_ready u.mark; rested = false; picked = false } }

abbrev pub stage_of : (ℕ → FineUpdater) → List ℕ → Progress → Stage
stage_of updaters in_hand Idle = stages.Idle
stage_of updaters in_hand (Found k) = stages.Busy k (updaters k).slot
stage_of updaters in_hand (Holding k) = stages.Busy k in_hand
stage_of updaters in_hand (Published k) = stages.Published k
stage_of updaters in_hand (Put k) = stages.Published k

abbrev pub coarse_of : Fine → Coarse
coarse_of f = record { published = f.published; stage = stage_of f.updaters f.in_hand f.progress; turn = f.turn; sizes = λ i. (f.updaters i).size; updaters = λ i. coarse_updater (f.updaters i) }

-- the slot of updater i is out
abbrev pub IsOut : Progress → ℕ → Type 0
IsOut Idle i = ⊥
IsOut (Found k) i = ⊥
IsOut (Holding k) i = k ≡ i
IsOut (Published k) i = k ≡ i
IsOut (Put k) i = ⊥

-- what the coarse machine does not say of an updater
pub record FitsUpdater (hint : List Entry → ℕ) (progress : Progress) (offers i : ℕ) (u : FineUpdater) : Type 0 where
  pub items : KeepsItems u.kept
  pub holds : HoldsKept u
  pub hint_is : u.hint ≡ hint u.base
  pub counted : length u.kept ≤ offers
  pub home : ¬ IsOut progress i → u.home ≡ true
  pub out : IsOut progress i → u.home ≡ false
  pub empty : u.word ≢ 0 → u.mark ≢ Swapped → u.slot ≡ []
  pub laid : progress ≡ Put i → u.slot ≡ []

-- what it does not say of the machine
pub record Fits (hint packed : List Entry → ℕ) (f : Fine) : Type 0 where
  pub word : f.word ≡ packed f.published
  pub free : f.turn ≡ 0 → MayRest f.progress
  pub each : (i : ℕ) → i < f.n → FitsUpdater hint f.progress f.offers i (f.updaters i)
  pub tokens : (t : ℕ) → t < f.made → (f.tokens t).live ≡ true → IsBehind f (f.tokens t)

-- the form in which each event keeps the invariant
pub record IsSound (hint packed : List Entry → ℕ) (f : Fine) : Type 0 where
  pub coarse : Meets hint f.n (coarse_of f)
  pub fits : Fits hint packed f
