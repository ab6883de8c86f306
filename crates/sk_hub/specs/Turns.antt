-- Where a seat is that has the turn and has lifted the trunk.
use Rattle.std.specs.Prelude.{◌≡◌, ℕ, ◌+◌, ◌<◌, List, ◌∷◌, [], ◌++◌, true, false}
use Rattle.sk_machine.specs.declared.views.Move.{Move}
use Rattle.sk_machine.specs.declared.views.Move.TheVariants.{Find}
use Rattle.sk_machine.specs.declared.views.Stage.TheVariants.{Idle, Busy}
use Rattle.sk_machine.specs.declared.views.Duty.TheVariants.{Leads}
use Rattle.sk_machine.specs.declared.views.View.{View}
use Rattle.sk_gate.specs.declared.load.Trunk.{Trunk}
use Rattle.sk_gate.specs.Slots.{Sketching, IsTrunkOf}
use Rattle.sk_gate.specs.Views.{size_of, stage_in, left_in, batch_of}
use Rattle.sk_gate.specs.Hands.{SeatState, IsTrunk}
use Rattle.sk_gate.specs.Moves.{MayResume}
use Rattle.sk_hub.specs.Rounds.{ServesEach, Advances}

-- nothing is found and nothing held
pub record IsLifted {C T : Type 0} (g : Sketching C) (s : SeatState) (t : Trunk C T) : Type 0 where
  pub duty : s.view.duty ≡ Leads Idle false
  pub filled : s.filled ≡ false
  pub lifted : s.lifted ≡ true
  pub trunk : IsTrunkOf g s.view.numbers s.view.name s.view.seen Idle (size_of s.view) t

-- as the turn was taken
pub record IsResumed {C T : Type 0} (g : Sketching C) (s : SeatState) (t : Trunk C T) : Type 0 where
  pub duty : s.view.duty ≡ Leads (stage_in s.view.duty) (left_in s.view.duty)
  pub resumes : MayResume s.view (stage_in s.view.duty) (left_in s.view.duty)
  pub filled : s.filled ≡ false
  pub lifted : s.lifted ≡ true
  pub trunk : IsTrunk s.view g t

-- the batch of updater i was found and refused, and is held
pub record IsRefused {C T : Type 0} (g : Sketching C) (i : ℕ) (s : SeatState) (t : Trunk C T) : Type 0 where
  pub duty : s.view.duty ≡ Leads (Busy i (batch_of s.view)) false
  pub filled : s.filled ≡ false
  pub lifted : s.lifted ≡ true
  pub trunk : IsTrunk s.view g t

-- the updaters before this one were served
pub record RefusesAfter (v : View) (from n i : ℕ) (w : View) : Type 0 where
  pub served : ℕ
  pub count : ℕ
  pub steps : List Move
  pub within : served < n
  pub place : i ≡ from + served
  pub serves : ServesEach from served count steps
  pub advances : Advances v (steps ++ Find i 0 ∷ []) w
