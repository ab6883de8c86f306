-- A taker of labelled lines as one of units, which carries why it stopped.
use Rattle.std.specs.Prelude.{◌≡◌, ℕ, List, Option, Some, IsSomeAnd, Err}
use Rattle.sk_model.specs.Causes.{HasCauseIn}
use Rattle.sk_read.specs.declared.fault.Fault.{Fault}
use Rattle.sk_read.specs.declared.fault.Fault.TheVariants as fault
use Rattle.sk_label.specs.Rules.{Rules, IsBad, IsRefused}
use Rattle.sk_label.specs.Goes.{WroteSoFar, WrotePartAt}
use Rattle.sk_label.specs.Faults.{fault_at}
use Rattle.sk_label.specs.declared.fault.LabelFault.{LabelFault}
use Rattle.sk_label.specs.declared.fault.LabelFault.TheVariants as label
use Rattle.sk_label.specs.declared.fault.LineStop.{LineStop}
use Rattle.sk_label.specs.declared.fault.LineStop.TheVariants as stop

-- what a taker shows: its rules, what its sink was written, and how often that failed
pub record Shown : Type 0 where
  pub rules : Rules
  pub written : Option (List ℕ)
  pub faults : ℕ

abbrev pub shown : Rules → Option (List ℕ) → ℕ → Shown
shown rules written faults = record { rules = rules; written = written; faults = faults }

-- it was given these lines, and wrote what is due at them
pub record Carried (Went : List (List ℕ) → Type 0) (a b : Shown) (lines : List (List ℕ)) : Type 0 where
  pub wrote : WroteSoFar a.rules a.written b.written lines
  pub went : Went lines
  pub rules : b.rules ≡ a.rules
  pub steady : b.faults ≡ a.faults

-- after these lines it stopped at one for this reason
abbrev pub BreaksAt : Rules → Option (List ℕ) → Option (List ℕ) → List (List ℕ) → List ℕ → LineStop → Type 0
BreaksAt rules old new lines line stop.OutOfMemory = WroteSoFar rules old new lines
BreaksAt rules old new lines line stop.WriteFault = WrotePartAt rules old new lines line
BreaksAt rules old new lines line stop.BadLine = WroteSoFar rules old new lines × IsBad rules line
BreaksAt rules old new lines line stop.Refused = WroteSoFar rules old new lines × IsRefused rules lines line

-- the same, with its cause
pub record Broke (a b : Shown) (lines : List (List ℕ)) (line : List ℕ) (why : LineStop) : Type 0 where
  pub breaks : BreaksAt a.rules a.written b.written lines line why
  pub cause : HasCauseIn {T = Unit {0}} stop.WriteFault a.faults b.faults (Err why)

-- the same, of the reason that it carries; as a taker of units it says that the line is no item
abbrev pub Dropped : Shown → Shown → Option LineStop → Fault → List (List ℕ) → List ℕ → Type 0
Dropped a b carried (fault.BadItem n) lines line = IsSomeAnd carried (λ why. Broke a b lines line why)
Dropped a b carried other lines line = ⊥

-- the fault that a fault of units and the reason that is carried make; none of the others comes of lines
abbrev pub fault_by : Fault → Option LineStop → LabelFault
fault_by fault.ReadFault carried = label.ReadFault
fault_by (fault.LongLine n) carried = label.LongLine n
fault_by fault.TooMuch carried = label.TooMuch
fault_by (fault.BadItem n) (Some why) = fault_at why n
fault_by other carried = label.OutOfMemory
