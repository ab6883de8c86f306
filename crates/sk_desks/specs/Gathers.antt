-- What it means that lines of a source were examined and gathered in a window.
use Rattle.std.specs.Prelude.{◌≡◌, ◌≢◌, ◌⊎◌, ℕ, ◌+◌, ◌*◌, ◌<◌, ◌≤◌, Bool, true, false, List, [], ◌∷◌, ◌++◌, length, take, All, Option, None, Result, Ok, Err, OnOk, IfErr}
use Rattle.std.specs.Io.KnownBytes.{Consumes}
use Rattle.sk_fill.specs.Windows.{full_bytes}
use Rattle.sk_model.specs.Limits.{line_limit}
use Rattle.sk_model.specs.Lines.{lines_of}
use Rattle.sk_model.specs.Missing.{Begins}
use Rattle.sk_lines.specs.Runs.{IsRun, EndEach}
use Rattle.sk_read.specs.Reading.{Reading, HasRead, remaining_of}
use Rattle.sk_label.specs.Labels.{is_labelled}
use Rattle.sk_label.specs.Rules.{AreFine}
use Rattle.sk_label.specs.Goes.{setting, EndsBefore}
use Rattle.sk_label.specs.declared.fault.LabelFault.{LabelFault}
use Rattle.sk_label.specs.declared.fault.LabelFault.TheVariants.{OutOfMemory, ReadFault, WriteFault, BadLine, Refused}
use Rattle.sk_desks.specs.declared.plan.Plan.{Plan}
use Rattle.sk_desks.specs.Desks.{is_known, desk_rules}
use Rattle.sk_desks.specs.Entries.{LabelledState, window_lines}
use Rattle.sk_desks.specs.declared.even.FirstLines.{FirstLines}

-- a line is empty, or has the form and the name of a tenant
abbrev pub IsOfTenant : List (List ℕ) → List ℕ → Type 0
IsOfTenant names line = 0 < length line → (is_labelled line ≡ true) × (is_known names line ≡ true)

-- the first lines of a text, this many in this many bytes, are of tenants
pub record AreFirst (names : List (List ℕ)) (text : List ℕ) (count bytes : ℕ) : Type 0 where
  pub within : bytes ≤ length text
  pub run : IsRun count (take bytes text)
  pub fine : All (IsOfTenant names) (lines_of (take bytes text))

-- each of the first lines of a text has as many bytes before its LF
pub record HaveOneLength (text : List ℕ) (first : FirstLines) : Type 0 where
  pub size : first.bytes ≡ first.count * (first.len + 1)
  pub ends : EndEach first.count first.len text

-- the lines of a text up to a place, at most `most`, have one length and are of tenants
pub record AreUpTo (names : List (List ℕ)) (text : List ℕ) (most len bytes : ℕ) : Type 0 where
  pub count : ℕ
  pub size : bytes ≡ count * (len + 1)
  pub room : bytes ≤ most * (len + 1)
  pub first : AreFirst names text count bytes
  pub ends : EndEach count len text

-- the line of a window is all that a reader gave since the last read, and those after it are as long and of tenants: all of
-- them can be the window's, and the few bytes after them can be copied
pub record HasPiece (w : LabelledState) (r : Reading) (more : FirstLines) : Type 0 where
  pub lines : lines_of r.cutter.front ≡ w.lines
  pub fine : All (IsOfTenant w.names) w.lines
  pub run : IsRun (length w.lines) r.cutter.front
  pub first : AreFirst w.names r.cutter.rest more.count more.bytes
  pub even : HaveOneLength r.cutter.rest more
  pub one : length w.lines ≡ 1
  pub long : length r.cutter.front ≡ more.len + 1
  pub most : 1 + more.count ≤ window_lines
  pub small : length r.cutter.front + more.bytes < full_bytes
  pub few : length r.cutter.rest ≤ more.bytes + line_limit + 1

-- the line of this number is not so, and it is said why
abbrev pub RefusesAs : List (List ℕ) → List ℕ → ℕ → LabelFault → Type 0
RefusesAs names line n (BadLine m) = (m ≡ n) × (0 < length line) × (is_labelled line ≡ false)
RefusesAs names line n (Refused m) = (m ≡ n) × (0 < length line) × (is_labelled line ≡ true) × (is_known names line ≡ false)
RefusesAs names line n other = ⊥

-- of lines that are numbered from `first` on, these are of tenants, and the next is not
pub record RefusesAmong (names : List (List ℕ)) (lines : List (List ℕ)) (first : ℕ) (why : LabelFault) : Type 0 where
  pub before : List (List ℕ)
  pub line : List ℕ
  pub begins : Begins (before ++ line ∷ []) lines
  pub fine : All (IsOfTenant names) before
  pub refused : RefusesAs names line (first + length before) why

-- memory ran out for them, or one is refused
abbrev pub StopsWithin : List (List ℕ) → List (List ℕ) → ℕ → LabelFault → Type 0
StopsWithin names lines first why = (why ≡ OutOfMemory) ⊎ RefusesAmong names lines first why

-- a reader gave these lines, in order
abbrev pub GivesNext : List (List ℕ) → Reading → Reading → Option (List ℕ) → Option (List ℕ) → Type 0
GivesNext lines r r' old new = (given : List (List ℕ)) (taken : List ℕ) → HasRead r old given taken
    → (more : List ℕ) × Consumes old new more × HasRead r' new (given ++ lines) (taken ++ more)

-- after lines that are fine these are fine
abbrev pub GoOnFine : List (List ℕ) → List (List ℕ) → Type 0
GoOnFine names lines = (plan : Plan) (before : List (List ℕ)) → AreFine (desk_rules plan names) before → AreFine (desk_rules plan names) (before ++ lines)

-- a source of which a reader had read lines that are fine ended early, and its last read gave this many bytes
abbrev pub EndsReading : List (List ℕ) → ℕ → Reading → Option (List ℕ) → Option (List ℕ) → LabelFault → Type 0
EndsReading names last r old new why = (plan : Plan) (first : Option (List ℕ)) (given : List (List ℕ)) (taken : List ℕ) → Consumes first old taken → HasRead r old given taken
    → AreFine (desk_rules plan names) given → EndsBefore (desk_rules plan names) last r.most (setting first None) (setting new None) why

-- the lines of a window went on by those that a reader held
abbrev pub GivesHeld : List (List ℕ) → List (List ℕ) → Reading → Reading → Type 0
GivesHeld lines lines' r r' = (left : Option (List ℕ)) (given : List (List ℕ)) (taken : List ℕ) → HasRead r left (given ++ lines) taken → HasRead r' left (given ++ lines') taken

-- one of those that a reader held after the lines of a window is refused, or memory ran out
abbrev pub StopsHeld : List (List ℕ) → List (List ℕ) → ℕ → Reading → LabelFault → Type 0
StopsHeld names lines last r why = (plan : Plan) (first left : Option (List ℕ)) (given : List (List ℕ)) (taken : List ℕ) → Consumes first left taken → HasRead r left (given ++ lines) taken
    → AreFine (desk_rules plan names) given → EndsBefore (desk_rules plan names) last r.most (setting first None) (setting left None) why

-- the lines that a reader held were taken into a window, each of them fine
pub record TakesHeld (names : List (List ℕ)) (lines lines' : List (List ℕ)) (r r' : Reading) (result : Result Bool LabelFault) : Type 0 where
  pub gives : OnOk result (GivesHeld lines lines' r r')
  pub fine : OnOk result (GoOnFine names lines → GoOnFine names lines')
  pub stopped : IfErr result (λ why. GoOnFine names lines → StopsHeld names lines r'.last r why)
  pub bound : r'.most ≡ r.most
  pub piece : r'.last ≡ r.last
  pub fewer : remaining_of r' ≤ remaining_of r
  pub quiet : result ≢ Err WriteFault
  pub no_read : result ≢ Err ReadFault

-- these lines of a source were read, each of them fine; or the reading ended early
pub record Gathers (names : List (List ℕ)) (r r' : Reading) (old new : Option (List ℕ)) (lines : List (List ℕ)) (result : Result Bool LabelFault) : Type 0 where
  pub gives : OnOk result (GivesNext lines r r' old new)
  pub fine : OnOk result (GoOnFine names lines)
  pub end : result ≡ Ok false → r'.ended ≡ true
  pub progress : result ≡ Ok true → remaining_of r' < remaining_of r
  pub bound : r'.most ≡ r.most
  pub stopped : IfErr result (EndsReading names r'.last r old new)
  pub quiet : result ≢ Err WriteFault
