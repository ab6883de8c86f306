-- How a telling goes: what it wrote and left if it ends well, and at each other end.
use Rattle.std.specs.Prelude.{◌≡◌, ◌⊎◌, ℕ, ◌<◌, List, [], ◌∷◌, ◌++◌, length, Option, Result, MatchResult, IsNone}
use Rattle.std.specs.Io.KnownBytes.{Appends}
use Rattle.sk_model.specs.Entries.{Entry, items_of_entries}
use Rattle.sk_hub.specs.Hearts.{HeartState}
use Rattle.sk_read.specs.Items.{item_of}
use Rattle.sk_read.specs.Reads.{ReadsAll, Ends}
use Rattle.sk_read.specs.Units.{units_by}
use Rattle.sk_read.specs.declared.fault.Fault.{Fault}
use Rattle.sk_read.specs.declared.fault.Fault.TheVariants.{OutOfMemory, BadItem, WriteFault}
use Rattle.sk_report.specs.Parts.{AppendsPartAfter}
use Rattle.sk_snap.specs.Versions.{Learnt}
use Rattle.sk_tell.specs.Manners.{Manner, Holds}
use Rattle.sk_tell.specs.Moments.{Moment}
use Rattle.sk_tell.specs.Texts.{interim_text}
use Rattle.sk_tell.specs.Feeding.{Course}
use Rattle.sk_tell.specs.Headline.{IsListOf, Goes, TellsLines}

-- what is around a telling: what its source has left, and what its sink was written, both if they are known
pub record Setting : Type 0 where
  pub left : Option (List ℕ)
  pub written : Option (List ℕ)

abbrev pub setting : Option (List ℕ) → Option (List ℕ) → Setting
setting left written = record { left = left; written = written }

-- the units of a source were read to its end
abbrev pub ReadsUnits : ℕ → ℕ → (List (List ℕ) → Type 0) → Option (List ℕ) → Option (List ℕ) → Type 0
ReadsUnits column most Gave left left' = (n : ℕ) × ReadsAll (units_by column) most n Gave left left'

-- ---- its ends

-- the interim text of these units was written, and nothing more
pub record TellsSoFar (manner : Manner) (old new : Setting) (units : List (List ℕ)) : Type 0 where
  pub course : Course manner units
  pub written : Appends old.written new.written (interim_text manner course.moments)

-- the headline of these units is so of the text that was written
pub record TellsAll (manner : Manner) (old new : Setting) (h : HeartState) (reader : Learnt) (units : List (List ℕ)) : Type 0 where
  pub text : List ℕ
  pub written : Appends old.written new.written text
  pub exactly : TellsLines manner units h reader text

-- these units end with a full window: the text of the moments before it was written whole, and of its own a part
pub record TellsPart (manner : Manner) (old new : Setting) (units : List (List ℕ)) : Type 0 where
  pub course : Course manner units
  pub full : course.rest ≡ []
  pub earlier : List Moment
  pub last : Moment
  pub moments : course.moments ≡ earlier ++ last ∷ []
  pub written : AppendsPartAfter (interim_text manner earlier) old.written new.written (interim_text manner course.moments)

-- the interim text was written whole, and of the last line a part
pub record TellsPartOfAll (manner : Manner) (old new : Setting) (units : List (List ℕ)) : Type 0 where
  pub course : Course manner units
  pub whole : List Entry
  pub list : IsListOf manner (course.windows ++ course.rest ∷ []) whole
  pub goes : Goes course.moments whole
  pub holds : Holds manner (items_of_entries whole)
  pub written : AppendsPartAfter (interim_text manner course.moments) old.written new.written (interim_text manner course.moments ++ manner.line (items_of_entries whole))

-- what was written if it stopped at a unit after these: the unit is no item, or it fills a window and a write failed
abbrev pub StopsFor : Manner → Setting → Setting → Fault → List (List ℕ) → List ℕ → Type 0
StopsFor manner old new (BadItem n) units unit = TellsSoFar manner old new units × (0 < length unit) × IsNone (item_of manner.kind unit)
StopsFor manner old new WriteFault units unit = TellsPart manner old new (units ++ unit ∷ [])
StopsFor manner old new OutOfMemory units unit = TellsSoFar manner old new units
StopsFor manner old new other units unit = ⊥

-- if it ends before its source, whose last read gave this many bytes
abbrev pub EndsBefore : Manner → ℕ → ℕ → Setting → Setting → Fault → Type 0
EndsBefore manner last most old new fault = Ends last (units_by manner.column) most (TellsSoFar manner old new) (StopsFor manner old new) old.left new.left fault

-- if it read all, and then ran out of memory, or failed to write
abbrev pub EndsAfter : Manner → ℕ → Setting → Setting → Fault → Type 0
EndsAfter manner most old new WriteFault = ReadsUnits manner.column most (TellsPartOfAll manner old new) old.left new.left
EndsAfter manner most old new OutOfMemory = ReadsUnits manner.column most (TellsSoFar manner old new) old.left new.left
EndsAfter manner most old new other = ⊥

abbrev pub EndsAt : Manner → ℕ → ℕ → Setting → Setting → Fault → Type 0
EndsAt manner last most old new fault = EndsBefore manner last most old new fault ⊎ EndsAfter manner most old new fault

-- how a telling went over a source whose last read gave this many bytes
abbrev pub TellsOrEnds : Manner → ℕ → ℕ → Setting → Setting → Result (HeartState × Learnt) Fault → Type 0
TellsOrEnds manner last most old new result = MatchResult result
    (λ made. ReadsUnits manner.column most (TellsAll manner old new made.0 made.1) old.left new.left)
    (λ fault. EndsAt manner last most old new fault)
