-- What a command does with the text that it reads.
use Rattle.std.specs.Prelude.{◌≡◌, ℕ, Bool, List}
use Rattle.sk_cli.specs.Beside.{Beside, MadeHub}
use Rattle.sk_cli.specs.declared.fault.Fault.{Fault}

pub record Behaviour : Type 1 where
  -- whether it reads a text
  pub reads : Bool
  -- whether it reads a file in place of the standard input if one is named
  pub takes_file : Bool
  -- whether it writes only once its text has ended
  pub writes_last : Bool
  -- whether it writes what is due for the lines of a read before it reads on
  pub writes_by_lines : Bool
  -- the marks of the alarms that it arms
  pub arms : List ℕ
  -- the hub that it makes
  pub makes : MadeHub
  -- what decides how it ends: nothing of a text is refused
  pub IsFine : List ℕ → Type 0
  -- nothing of these bytes of a text that may go on is refused so far
  pub IsFineSoFar : List ℕ → Type 0
  -- a text is refused by this fault
  pub Refuses : Fault → List ℕ → Type 0
  -- what it writes, with the first beside it as it begins, and the second as it ends: this is due for a text that is fine
  pub IsDue : Beside → Beside → List ℕ → List ℕ → Type 0
  -- once this was written for a text, those are left beside it
  pub Leaves : Beside → List ℕ → List ℕ → Beside → Type 0
  -- this is due for what has ended in these bytes of a text that may go on
  pub IsDueSoFar : Beside → Beside → List ℕ → List ℕ → Type 0
  -- where a text is refused by this fault, this is due for what stands before that place
  pub IsDueAt : Beside → Beside → Fault → List ℕ → List ℕ → Type 0
  -- nothing is refused of some first part of a text, and this is due for it before more is read
  pub IsDueBefore : Beside → Beside → List ℕ → List ℕ → Type 0

-- a text is fine, or is refused in one way
pub record IsDecided (b : Behaviour) : Type 0 where
  pub refused : (f g : Fault) (text : List ℕ) → b.Refuses f text → b.Refuses g text → f ≡ g
  pub apart : (f : Fault) (text : List ℕ) → b.IsFine text → b.Refuses f text → ⊥

-- what is written is decided by the text that is read: one text is due for it, or before the place where it is refused
pub record WritesOneText (b : Behaviour) : Type 0 where
  pub due : (from to to' : Beside) (text due other : List ℕ) → b.IsDue from to text due → b.IsDue from to' text other → due ≡ other
  pub refused : (from to to' : Beside) (f : Fault) (text due other : List ℕ) → b.IsDueAt from to f text due → b.IsDueAt from to' f text other → due ≡ other
