-- How a count goes: what it wrote and left behind if it ends well, and at each other end.
use Rattle.std.specs.Prelude.{◌≡◌, ◌⊎◌, ℕ, ◌<◌, List, [], ◌∷◌, ◌++◌, length, All, Option, Result, MatchResult, IsNone}
use Rattle.std.specs.Io.KnownBytes.{Appends}
use Rattle.sk_read.specs.Items.{item_of, IsGood}
use Rattle.sk_read.specs.Reads.{ReadsAll, Ends}
use Rattle.sk_read.specs.Units.{units_by}
use Rattle.sk_read.specs.declared.fault.Fault.{Fault}
use Rattle.sk_read.specs.declared.fault.Fault.TheVariants.{OutOfMemory, BadItem, WriteFault}
use Rattle.sk_watch.specs.Places.{Place}
use Rattle.sk_fill.specs.Windows.{AreWindows}
use Rattle.sk_report.specs.Parts.{AppendsPartAfter}
use Rattle.sk_report.specs.declared.remains.Remains.{Remains}
use Rattle.sk_count.specs.declared.plan.Plan.{Plan}
use Rattle.sk_count.specs.Plans.{lines_of_window}
use Rattle.sk_count.specs.Moments.{Moment, AreMoments}
use Rattle.sk_count.specs.Texts.{interim_by, places_by, last_lines}
use Rattle.sk_count.specs.Headline.{CountsExactly}

-- what is around a count: what its source has left, what its sink was written, both if they are known, and the places of
-- its board
pub record Setting : Type 0 where
  pub left : Option (List ℕ)
  pub written : Option (List ℕ)
  pub places : List Place

abbrev pub setting : Option (List ℕ) → Option (List ℕ) → List Place → Setting
setting left written places = record { left = left; written = written; places = places }

-- ---- the course of it

-- none of these units is refused; they are cut into full windows and a rest, with a moment after each window
pub record Course (plan : Plan) (units : List (List ℕ)) : Type 0 where
  pub windows : List (List (List ℕ))
  pub rest : List (List ℕ)
  pub moments : List Moment
  pub good : All (IsGood plan.kind) units
  pub cut : AreWindows (lines_of_window plan) units windows rest
  pub asks : AreMoments plan windows moments

-- ---- its ends

-- the interim text of these units was written, and nothing more
pub record TellsSoFar (plan : Plan) (old new : Setting) (units : List (List ℕ)) : Type 0 where
  pub course : Course plan units
  pub written : Appends old.written new.written (interim_by plan old.places course.moments)
  pub places : new.places ≡ places_by plan old.places course.moments

-- the headline of these units is so of the text that was written
pub record TellsAll (plan : Plan) (old new : Setting) (remains : Remains) (units : List (List ℕ)) : Type 0 where
  pub text : List ℕ
  pub written : Appends old.written new.written text
  pub exactly : CountsExactly plan units old.places new.places remains text

-- these units end with a full window: the text of the moments before it was written whole, and of its own a part
pub record TellsPart (plan : Plan) (old new : Setting) (units : List (List ℕ)) : Type 0 where
  pub course : Course plan units
  pub full : course.rest ≡ []
  pub earlier : List Moment
  pub last : Moment
  pub moments : course.moments ≡ earlier ++ last ∷ []
  pub written : AppendsPartAfter (interim_by plan old.places earlier) old.written new.written (interim_by plan old.places course.moments)
  pub places : new.places ≡ places_by plan old.places course.moments

-- the interim text was written whole, and of the last lines a part
pub record TellsPartOfAll (plan : Plan) (old new : Setting) (units : List (List ℕ)) : Type 0 where
  pub course : Course plan units
  pub written : AppendsPartAfter (interim_by plan old.places course.moments) old.written new.written (interim_by plan old.places course.moments ++ last_lines plan units)
  pub places : new.places ≡ places_by plan old.places course.moments

-- what was written if a count stopped at a unit after these: the unit is no item, or it fills a window and a write failed
abbrev pub StopsFor : Plan → Setting → Setting → Fault → List (List ℕ) → List ℕ → Type 0
StopsFor plan old new (BadItem n) units unit = TellsSoFar plan old new units × (0 < length unit) × IsNone (item_of plan.kind unit)
StopsFor plan old new WriteFault units unit = TellsPart plan old new (units ++ unit ∷ [])
StopsFor plan old new OutOfMemory units unit = TellsSoFar plan old new units
StopsFor plan old new other units unit = ⊥

-- if a count ends before its source, whose last read gave this many bytes
abbrev pub EndsBefore : Plan → ℕ → ℕ → Setting → Setting → Fault → Type 0
EndsBefore plan last most old new fault = Ends last (units_by plan.column) most (TellsSoFar plan old new) (StopsFor plan old new) old.left new.left fault

-- if it read all, and then ran out of memory, or failed to write
abbrev pub EndsBehind : Plan → ℕ → Setting → Setting → Fault → Type 0
EndsBehind plan most old new WriteFault = (n : ℕ) × ReadsAll (units_by plan.column) most n (TellsPartOfAll plan old new) old.left new.left
EndsBehind plan most old new OutOfMemory = (n : ℕ) × ReadsAll (units_by plan.column) most n (TellsSoFar plan old new) old.left new.left
EndsBehind plan most old new other = ⊥

-- how a count went over a source whose last read gave this many bytes
abbrev pub Counts : Plan → ℕ → ℕ → Setting → Setting → Result Remains Fault → Type 0
Counts plan last most old new result = MatchResult result
    (λ left. (n : ℕ) × ReadsAll (units_by plan.column) most n (TellsAll plan old new left) old.left new.left)
    (λ fault. EndsBefore plan last most old new fault ⊎ EndsBehind plan most old new fault)
