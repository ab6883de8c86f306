-- What the merge of a batch needs, and comes to.
use Rattle.std.specs.Prelude.{◌≡◌, ℕ, ◌+◌, ◌≤◌, List, [], ◌∷◌, ◌++◌, length, true, false, slice_set}
use Rattle.sk_model.specs.Entries.{Entry, tagged}
use Rattle.sk_compose.specs.declared.buffer.Parcel.{Parcel}
use Rattle.sk_machine.specs.Coarse.{most_entries}
use Rattle.sk_machine.specs.declared.views.Stage.TheVariants.{Idle, Busy}
use Rattle.sk_machine.specs.declared.views.Move.{Move}
use Rattle.sk_machine.specs.declared.views.Move.TheVariants.{Publish, GiveBack}
use Rattle.sk_machine.specs.declared.views.Duty.TheVariants.{Leads}
use Rattle.sk_machine.specs.declared.views.View.{View}
use Rattle.sk_gate.specs.declared.load.Trunk.{Trunk}
use Rattle.sk_gate.specs.Slots.{contents, Sketching, IsTrunkOf}
use Rattle.sk_gate.specs.Views.{size_of, left_in, batch_of}
use Rattle.sk_gate.specs.Hands.{SeatState}

-- a seat that is at a batch of updater i has lifted the trunk, whose sketch is of what it has seen, and has the batch
pub record CarriesBatch {C T : Type 0} (g : Sketching C) (s : SeatState) (i : ℕ) (t : Trunk C T) (parcel : Parcel T) : Type 0 where
  pub duty : s.view.duty ≡ Leads (Busy i (batch_of s.view)) (left_in s.view.duty)
  pub filled : s.filled ≡ false
  pub lifted : s.lifted ≡ true
  pub trunk : IsTrunkOf g s.view.numbers s.view.name s.view.seen Idle (size_of s.view) t
  pub batch : parcel.buffer ≡ contents (batch_of s.view) (size_of s.view i)
  pub few : length s.view.seen + length (batch_of s.view) ≤ most_entries

-- the batch in hand of updater i is published, and its slot given back
abbrev pub MergesAt : (List ℕ → List Entry → ℕ) → (List ℕ → List Entry → ℕ) → View → View → ℕ → Type 0
MergesAt hint packed v w i =
    let list : List Entry = v.seen ++ tagged i (batch_of v) in
    let done : List Move = Publish (packed v.numbers list) (length (batch_of v)) ∷ GiveBack i (hint v.numbers list) ∷ [] in
    w ≡ record v { seen = list; steps = v.steps ++ done; duty = Leads Idle false; given = slice_set v.given i list }
