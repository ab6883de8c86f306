-- What contracts see of a seat, and what is true of the slots that it has.
use Rattle.std.specs.Prelude.{◌≡◌, ◌≢◌, ◌⊎◌, ℕ, zero, suc, ◌+◌, ◌-◌, ◌<◌, ◌≤◌, nat_lt, ◌==◌, if◌then◌else◌, List, [], ◌∷◌, ◌++◌, length, drop, Bool, true, false, not, ◌&&◌, Some, None, is_some}
use Rattle.atomic_table.specs.Table.{turned}
use Rattle.atomic_table.specs.Seated.{TableId}
use Rattle.sk_compose.specs.declared.buffer.Parcel.{Parcel}
use Rattle.sk_machine.specs.Coarse.{most_entries, IsBatch}
use Rattle.sk_machine.specs.declared.views.Stage.{Stage}
use Rattle.sk_machine.specs.declared.views.Stage.TheVariants.{Idle, Busy, Published}
use Rattle.sk_machine.specs.declared.views.Post.TheVariants.{Root, Updater}
use Rattle.sk_machine.specs.declared.views.Duty.{Duty}
use Rattle.sk_machine.specs.declared.views.Duty.TheVariants.{Free, Leads}
use Rattle.sk_machine.specs.declared.views.View.{View}
use Rattle.sk_gate.specs.declared.load.Trunk.{Trunk}
use Rattle.sk_gate.specs.declared.load.Load.TheVariants as load
use Rattle.sk_gate.specs.Slots.{Slot, full, trunk, contents, Sketching, Telling, TellsList, IsTrunkOf}
use Rattle.sk_gate.specs.Views.{size_of, mine_of, stage_in}
use Rattle.sk_gate.specs.Plays.{Sat, is_picked, rested_mine}
use Rattle.sk_model.specs.Width.{AreItems}
use Rattle.sk_model.specs.Limits.{most_kept}

-- ---- lists of slots

-- the first goes after the others, this many times
unfoldable pub rotated : {S : Type 0} → ℕ → List (ℕ × S) → List (ℕ × S)
rotated zero hand = hand
rotated (suc times) hand = turned (rotated times hand)

-- a slot is in hand, with this many before it and this many after it
abbrev pub LiesAt : {S : Type 0} → ℕ → ℕ → ℕ → List (ℕ × S) → Type 0
LiesAt {S} slot before after hand = (front : List (ℕ × S)) × (x : S) × (back : List (ℕ × S)) × (hand ≡ front ++ (slot, x) ∷ back) × (length front ≡ before) × (length back ≡ after)

-- there it had the old value, and has the new one
abbrev pub IsPut : {S : Type 0} → ℕ → ℕ → ℕ → List (ℕ × S) → S → S → List (ℕ × S) → Type 0
IsPut {S} slot before after hand old new hand' = (front : List (ℕ × S)) (x : S) (back : List (ℕ × S)) → hand ≡ front ++ (slot, x) ∷ back → length front ≡ before → length back ≡ after
    → (old ≡ x) × (hand' ≡ front ++ (slot, new) ∷ back)

-- ---- what contracts see

-- the parcel in an updater's own slot, while it has that slot: its items, its room, and whether it has a told value
pub record Own : Type 0 where
  pub items : List ℕ
  pub capacity : ℕ
  pub told : Bool

abbrev pub no_own : Own
no_own = record { items = []; capacity = 0; told = false }

abbrev pub is_empty : List ℕ → Bool
is_empty [] = true
is_empty (x ∷ xs) = false

-- a seat that may propagate
pub record SeatState : Type 0 where
  pub view : View
  pub table : TableId
  -- i of updater i, and of the heart how many updaters there are
  pub number : ℕ
  pub own : Own
  -- a parcel lies in the slot of the updater that it is at as the propagator
  pub filled : Bool
  -- it has lifted the trunk
  pub lifted : Bool

-- what an updater's seat knows once it has given its slot back
abbrev pub rested_of : SeatState → View
rested_of s = record s.view { post = Updater s.number (rested_mine (mine_of s.view) (is_picked (mine_of s.view).handed s.own.told)) }

-- its own slot after a look that loaded r
abbrev pub own_looked : ℕ → View → ℕ → Own → Own
own_looked r v i own = if r == 0 then own else if (mine_of v).ready then own else record { items = []; capacity = size_of v i; told = not (is_empty (mine_of v).handed) }

-- a token or a note
pub record TokenState : Type 0 where
  pub view : View
  pub table : TableId

-- this parcel lies there
abbrev pub own_with : {T : Type 0} → Parcel T → Own
own_with p = record { items = p.buffer.items; capacity = p.buffer.capacity; told = is_some p.told }

-- an empty one, without a told value
abbrev pub own_empty : ℕ → Own
own_empty b = record { items = []; capacity = b; told = false }

module _ {C T : Type 0} where
  -- of the first slot
  abbrev pub own_in : List (ℕ × Slot C T) → Own
  own_in [] = no_own
  own_in ((i, None) ∷ more) = no_own
  own_in ((i, Some (load.Parcel p)) ∷ more) = own_with p
  own_in ((i, Some (load.Trunk t)) ∷ more) = no_own

  abbrev pub has_parcel : List (ℕ × Slot C T) → Bool
  has_parcel [] = false
  has_parcel ((i, None) ∷ more) = false
  has_parcel ((i, Some (load.Parcel p)) ∷ more) = true
  has_parcel ((i, Some (load.Trunk t)) ∷ more) = false

  abbrev pub has_trunk : List (ℕ × Slot C T) → Bool
  has_trunk [] = false
  has_trunk ((i, None) ∷ more) = false
  has_trunk ((i, Some (load.Parcel p)) ∷ more) = false
  has_trunk ((i, Some (load.Trunk t)) ∷ more) = true

  -- front: how many of the slots are the propagator's, which come first, the trunk last of them
  abbrev pub seat_state : View → TableId → ℕ → ℕ → List (ℕ × Slot C T) → SeatState
  seat_state v table number front hand = record {
    view = v;
    table = table;
    number = number;
    own = own_in (drop front hand);
    filled = nat_lt 1 front && has_parcel hand;
    lifted = nat_lt 0 front && not (has_trunk (drop (front - 1) hand));
  }

-- ---- what is true of a seat's slots

module _ (v : View) where
  -- a trunk that a seat with this view may lay, and finds
  abbrev pub IsTrunk : {C T : Type 0} → Sketching C → Trunk C T → Type 0
  IsTrunk g t = IsTrunkOf g v.numbers v.name v.seen (stage_in v.duty) (size_of v) t

  -- of a parcel that an updater finds in its slot: what was handed over before has a told value, which shows its base
  abbrev pub TellsBase : {T : Type 0} → Telling T → Parcel T → Type 0
  TellsBase {T} k p = (t : T) → p.told ≡ Some t → ((mine_of v).handed ≢ []) × TellsList k v.name t (mine_of v).base

  -- the slot of the stage
  abbrev pub StageHand : {C T : Type 0} → Telling T → Stage → Bool → List (ℕ × Slot C T) → Type 0
  StageHand k Idle left hand = hand ≡ []
  StageHand k (Busy i batch) true hand = hand ≡ []
  StageHand {C} {T} k (Busy i batch) false hand = (hand ≡ (i, None) ∷ []) ⊎ ((p : Parcel T) × (hand ≡ (i, full p) ∷ []) × (p.buffer ≡ contents batch (size_of v i)))
  StageHand {C} {T} k (Published i) left hand = (hand ≡ (i, None) ∷ []) ⊎ ((p : Parcel T) × (t : T) × (hand ≡ (i, full p) ∷ []) × (p.buffer ≡ contents [] (size_of v i)) × (p.told ≡ Some t) × TellsList k v.name t v.seen)

  -- what the propagator knows of where it is
  abbrev pub StageKnown : Stage → Bool → Type 0
  StageKnown Idle left = Unit {0}
  StageKnown (Busy i batch) left = (i < length v.sizes) × (size_of v i ≢ 0) × IsBatch (size_of v i) batch × (length v.seen + length batch ≤ most_entries)
  StageKnown (Published i) left = (i < length v.sizes) × (size_of v i ≢ 0) × (left ≡ false)

  -- the trunk's slot, of a table with n updaters
  abbrev pub TrunkHand : {C T : Type 0} → Sketching C → ℕ → Stage → List (ℕ × Slot C T) → Type 0
  TrunkHand {C} {T} g n stage hand = (hand ≡ (n, None) ∷ []) ⊎ ((t : Trunk C T) × (hand ≡ (n, trunk t) ∷ []) × IsTrunkOf g v.numbers v.name v.seen stage (size_of v) t)

  abbrev pub DutyHand : {C T : Type 0} → Sketching C → Telling T → ℕ → Duty → List (ℕ × Slot C T) → List (ℕ × Slot C T) → Type 0
  DutyHand g k n Free first second = (first ≡ []) × (second ≡ [])
  DutyHand g k n (Leads stage left) first second = StageHand k stage left first × StageKnown stage left × TrunkHand g n stage second

  -- a parcel that may lie in its own slot: empty, as it was taken or picked, or full, to be handed over
  abbrev pub IsEmptyOwn : {T : Type 0} → Telling T → ℕ → Parcel T → Type 0
  IsEmptyOwn k i p = (p.buffer.items ≡ []) × TellsBase k p
      × ((p.buffer.capacity ≡ size_of v i) ⊎ ((p.buffer.capacity ≡ 1) × (p.told ≡ None) × ((mine_of v).handed ≡ [])))

  abbrev pub IsFullOwn : {T : Type 0} → ℕ → Parcel T → Type 0
  IsFullOwn i p = IsBatch (size_of v i) p.buffer.items × AreItems p.buffer.items × (length (mine_of v).handed + length p.buffer.items ≤ most_kept) × (p.buffer.capacity ≡ size_of v i)

  abbrev pub MayLie : {T : Type 0} → Telling T → ℕ → Parcel T → Type 0
  MayLie k i p = IsEmptyOwn k i p ⊎ IsFullOwn i p

  abbrev pub OwnHand : {C T : Type 0} → Telling T → ℕ → Bool → List (ℕ × Slot C T) → Type 0
  OwnHand k i false hand = hand ≡ []
  OwnHand {C} {T} k i true hand = (p : Parcel T) × (hand ≡ (i, full p) ∷ []) × MayLie k i p × (size_of v i ≢ 0)

  -- whose seat it is, of n updaters
  abbrev pub IsPost : Bool → ℕ → ℕ → Type 0
  IsPost true n number = (v.post ≡ Root n) × (number ≡ n)
  IsPost false n number = (v.post ≡ Updater number (mine_of v)) × (number < n) × ((mine_of v).rested ≡ false) × ((mine_of v).picked ≡ false)

-- what is true of a seat that may propagate, of a table with n updaters; front: how many of the propagator's slots it
-- has, own: whether it has its own
pub record Holds {C T : Type 0} (g : Sketching C) (k : Telling T) (heart : Bool) (n number front : ℕ) (own : Bool) (m : Sat C T) : Type 0 where
  pub live : m.0.live ≡ true
  pub sized : length m.0.sizes ≡ n
  pub post : IsPost m.0 heart n number
  -- its slots: of the stage, the trunk's, its own
  pub first : List (ℕ × Slot C T)
  pub second : List (ℕ × Slot C T)
  pub third : List (ℕ × Slot C T)
  pub hand : m.1 ≡ first ++ second ++ third
  pub counted : length first + length second ≡ front
  pub leading : DutyHand m.0 g k n m.0.duty first second
  pub own_is : own ≡ (mine_of m.0).ready
  pub owned : OwnHand m.0 k number own third
