-- The words and the slots of the table, for n updaters. Word 0 is the published word, word i + 1 the hint word of
-- updater i, and word n + 1 the turn. Slot i has the parcel of updater i, and slot n the trunk.
use Rattle.std.specs.Prelude.{◌≡◌, ◌≢◌, ℕ, ◌+◌, ◌==◌, if◌then◌else◌, List, [], Option, Some, None}
use Rattle.sk_model.specs.Entries.{Entry}
use Rattle.sk_compose.specs.Buffers.{Contents}
use Rattle.sk_compose.specs.declared.buffer.Parcel.{Parcel}
use Rattle.sk_machine.specs.declared.views.Stage.{Stage}
use Rattle.sk_machine.specs.declared.views.Stage.TheVariants.{Idle, Busy, Published}
use Rattle.sk_gate.specs.declared.load.Held.{Held}
use Rattle.sk_gate.specs.declared.load.Trunk.{Trunk}
use Rattle.sk_gate.specs.declared.load.Load.{Load}
use Rattle.sk_gate.specs.declared.load.Load.TheVariants as load

-- what a slot has: nothing while its parcel or the trunk is taken out
abbrev pub Slot : Type 0 → Type 0 → Type 0
Slot C T = Option (Load C T)

abbrev pub full : {C T : Type 0} → Parcel T → Slot C T
full p = Some (load.Parcel p)

abbrev pub trunk : {C T : Type 0} → Trunk C T → Slot C T
trunk t = Some (load.Trunk t)

abbrev pub word_of : ℕ → ℕ
word_of i = i + 1

abbrev pub turn_word : ℕ → ℕ
turn_word n = n + 1

-- a buffer with these items, and room for b
abbrev pub contents : List ℕ → ℕ → Contents
contents items b = record { items = items; capacity = b }

-- the room of an empty buffer of an updater of this size; of one that is not admitted, the placeholder's
abbrev pub room : ℕ → ℕ
room b = if b == 0 then 1 else b

-- what a sketch's type says of sketches
pub record Sketching (C : Type 0) : Type 1 where
  pub is_of : C → List Entry → Type 0
  pub numbers : C → List ℕ
  pub name : C → List ℕ

abbrev pub sketching : {C : Type 0} → (C → List Entry → Type 0) → (C → List ℕ) → (C → List ℕ) → Sketching C
sketching a b c = record { is_of = a; numbers = b; name = c }

-- and of told values
pub record Telling (T : Type 0) : Type 1 where
  pub tells : Type 0
  pub told_name : T → List ℕ
  pub told_of : T → List Entry → Type 0

abbrev pub telling : {T : Type 0} → Type 0 → (T → List ℕ) → (T → List Entry → Type 0) → Telling T
telling a b c = record { tells = a; told_name = b; told_of = c }

-- a told value of a sketch of this name tells this list, where its kind tells any
abbrev pub TellsList : {T : Type 0} → Telling T → List ℕ → T → List Entry → Type 0
TellsList k name t list = k.tells → (k.told_name t ≡ name) × k.told_of t list

-- a parcel that was given back with this list has a told value exactly where something was handed over before
abbrev pub TellsGiven : {T : Type 0} → Telling T → List ℕ → Parcel T → List ℕ → List Entry → Type 0
TellsGiven {T} k name p handed given = (p.told ≡ None → handed ≡ []) × ((t : T) → p.told ≡ Some t → (handed ≢ []) × TellsList k name t given)

-- the batch that lies in the trunk, where the propagator is
abbrev pub IsHeld : {T : Type 0} → Stage → (ℕ → ℕ) → Option (Held T) → Type 0
IsHeld Idle sizes held = held ≡ None
IsHeld {T} (Busy i batch) sizes held = (h : Held T) × (held ≡ Some h) × (h.i ≡ i) × (h.parcel.buffer ≡ contents batch (sizes i))
IsHeld (Published i) sizes held = ⊥

-- a trunk that has been laid, with a sketch of this list
pub record IsTrunkOf {C T : Type 0} (g : Sketching C) (numbers name : List ℕ) (list : List Entry) (stage : Stage) (sizes : ℕ → ℕ) (t : Trunk C T) : Type 0 where
  pub of_it : g.is_of t.global.value list
  pub numbers_are : g.numbers t.global.value ≡ numbers
  pub name_is : g.name t.global.value ≡ name
  pub held_is : IsHeld stage sizes t.held
