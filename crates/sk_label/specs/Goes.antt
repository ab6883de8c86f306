-- How a command over labelled lines goes: what it wrote if it ends well, and at each other end.
use Rattle.std.specs.Prelude.{◌≡◌, ◌⊎◌, ℕ, ◌+◌, ◌<◌, List, [], ◌∷◌, ◌++◌, length, Option, Result, MatchResult}
use Rattle.std.specs.Io.KnownBytes.{Appends}
use Rattle.sk_read.specs.Reads.{ReadsAll, ReadsSome, BreaksOff, StopsAt}
use Rattle.sk_read.specs.Units.{units_by, IsSoundUpTo, IsLongBehind}
use Rattle.sk_report.specs.Parts.{AppendsPartAfter}
use Rattle.sk_label.specs.Rules.{Rules, IsBad, IsRefused, AreFine, due_so_far, whole_text}
use Rattle.sk_label.specs.declared.fault.LabelFault.{LabelFault}
use Rattle.sk_label.specs.declared.fault.LabelFault.TheVariants.{OutOfMemory, ReadFault, WriteFault, LongLine, TooMuch, BadLine, Refused}

-- what is around a command: what its source has left, and what its sink was written, both if they are known
pub record Setting : Type 0 where
  pub left : Option (List ℕ)
  pub written : Option (List ℕ)

abbrev pub setting : Option (List ℕ) → Option (List ℕ) → Setting
setting left written = record { left = left; written = written }

-- ---- what was written

-- these lines are fine, what is due at them was written, and nothing more
pub record WroteSoFar (rules : Rules) (old new : Option (List ℕ)) (lines : List (List ℕ)) : Type 0 where
  pub fine : AreFine rules lines
  pub written : Appends old new (due_so_far rules lines)

-- these lines are fine, and their whole text was written
pub record WroteAll (rules : Rules) (old new : Option (List ℕ)) (lines : List (List ℕ)) : Type 0 where
  pub fine : AreFine rules lines
  pub written : Appends old new (whole_text rules lines)

-- these lines are fine; what is due before the last of them was written whole, and of what is due at it a part
pub record WrotePartAt (rules : Rules) (old new : Option (List ℕ)) (lines : List (List ℕ)) (line : List ℕ) : Type 0 where
  pub fine : AreFine rules (lines ++ line ∷ [])
  pub written : AppendsPartAfter (due_so_far rules lines) old new (due_so_far rules (lines ++ line ∷ []))

-- these lines are fine; what is due at them was written whole, and of what is due once they have ended a part
pub record WrotePartLast (rules : Rules) (old new : Option (List ℕ)) (lines : List (List ℕ)) : Type 0 where
  pub fine : AreFine rules lines
  pub written : AppendsPartAfter (due_so_far rules lines) old new (whole_text rules lines)

-- ---- its ends

-- the lines of a source were read to its end
abbrev pub ReadsLines : ℕ → (List (List ℕ) → Type 0) → Option (List ℕ) → Option (List ℕ) → Type 0
ReadsLines most Gave left left' = (n : ℕ) × ReadsAll (units_by 0) most n Gave left left'

-- if it ends before its source, whose last read gave this many bytes
abbrev pub EndsBefore : Rules → ℕ → ℕ → Setting → Setting → LabelFault → Type 0
EndsBefore rules last most old new OutOfMemory = BreaksOff last (units_by 0) most (WroteSoFar rules old.written new.written)
    (λ lines text. IsSoundUpTo (units_by 0) (length lines) text) old.left new.left
EndsBefore rules last most old new ReadFault = ReadsSome (units_by 0) (λ size. size < most) (WroteSoFar rules old.written new.written) old.left new.left
EndsBefore rules last most old new TooMuch = ReadsSome (units_by 0) (λ size. size ≡ most) (WroteSoFar rules old.written new.written) old.left new.left
EndsBefore rules last most old new (LongLine n) = BreaksOff last (units_by 0) most (WroteSoFar rules old.written new.written)
    (λ lines text. (n ≡ length lines + 1) × IsLongBehind (units_by 0) (length lines) text) old.left new.left
EndsBefore rules last most old new (BadLine n) = StopsAt last (units_by 0) most
    (λ lines line. (n ≡ length lines + 1) × WroteSoFar rules old.written new.written lines × IsBad rules line) old.left new.left
EndsBefore rules last most old new (Refused n) = StopsAt last (units_by 0) most
    (λ lines line. (n ≡ length lines + 1) × WroteSoFar rules old.written new.written lines × IsRefused rules lines line) old.left new.left
EndsBefore rules last most old new WriteFault = StopsAt last (units_by 0) most (WrotePartAt rules old.written new.written) old.left new.left

-- if it read all, and then ran out of memory, or failed to write
abbrev pub EndsAfter : Rules → ℕ → Setting → Setting → LabelFault → Type 0
EndsAfter rules most old new OutOfMemory = ReadsLines most (WroteSoFar rules old.written new.written) old.left new.left
EndsAfter rules most old new WriteFault = ReadsLines most (WrotePartLast rules old.written new.written) old.left new.left
EndsAfter rules most old new other = ⊥

abbrev pub EndsAt : Rules → ℕ → ℕ → Setting → Setting → LabelFault → Type 0
EndsAt rules last most old new fault = EndsBefore rules last most old new fault ⊎ EndsAfter rules most old new fault

-- how a command went over a source whose last read gave this many bytes
abbrev pub Goes : {T : Type 0} → Rules → ℕ → ℕ → Setting → Setting → Result T LabelFault → Type 0
Goes rules last most old new result = MatchResult result
    (λ _. ReadsLines most (WroteAll rules old.written new.written) old.left new.left)
    (λ fault. EndsAt rules last most old new fault)

-- ---- its reading

-- the lines of a source were read to its end, and are this many
abbrev pub CountsLines : ℕ → Option (List ℕ) → Option (List ℕ) → ℕ → Type 0
CountsLines most left left' n = ReadsAll (units_by 0) most n (λ lines. Unit {0}) left left'

-- how the lines were read, where this is so of a taker that was given them
abbrev pub ReadsTaken : {T : Type 0} → Rules → ℕ → ℕ → (List (List ℕ) → Type 0) → Setting → Setting → Result T LabelFault → Type 0
ReadsTaken rules last most Went old new result = MatchResult result
    (λ _. ReadsLines most (λ lines. WroteSoFar rules old.written new.written lines × Went lines) old.left new.left)
    (λ fault. EndsBefore rules last most old new fault)
