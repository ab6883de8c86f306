-- What it means that a window was filled with the lines of a source, and that it was not.
use Rattle.std.specs.Prelude.{◌≡◌, ◌≢◌, ℕ, ◌+◌, ◌-◌, ◌<◌, ◌≤◌, Bool, true, false, List, [], ◌∷◌, ◌++◌, length, take, drop, slice_index_or, All, Option, IsNone, Result, Ok, OnOk, IfErr}
use Rattle.std.specs.Io.KnownBytes.{Consumes}
use Rattle.sk_read.specs.Reading.{Reading, HasRead, HoldsNone}
use Rattle.sk_read.specs.Reads.{IsInTime, Ends}
use Rattle.sk_read.specs.declared.units.Units.TheVariants.{Lines}
use Rattle.sk_read.specs.Items.{item_of, IsGood}
use Rattle.sk_lines.specs.Runs.{IsRun}
use Rattle.sk_model.specs.Limits.{line_limit, most_kept}
use Rattle.sk_model.specs.Missing.{Begins}
use Rattle.sk_fill.specs.Pages.{IsEven}
use Rattle.sk_fill.specs.Windows.{IsBad, full_bytes, fills, FillsNone, IsFullWindow}
use Rattle.sk_read.specs.declared.kind.Kind.{Kind}
use Rattle.sk_read.specs.declared.fault.Fault.{Fault}
use Rattle.sk_read.specs.declared.fault.Fault.TheVariants.{OutOfMemory, BadItem}

-- after these lines comes one that is no item, or for which no memory was found
abbrev pub RefusesLine : Kind → List (List ℕ) → Fault → List (List ℕ) → List ℕ → Type 0
RefusesLine kind lines (BadItem n) given line = (given ≡ lines) × (0 < length line) × IsNone (item_of kind line)
RefusesLine kind lines OutOfMemory given line = given ≡ lines
RefusesLine kind lines _ given line = ⊥

-- after these lines of these bytes one more was given, of as many bytes more
pub record ReadsLine (r : Reading) (old new : Option (List ℕ)) (given : List (List ℕ)) (line taken : List ℕ) : Type 0 where
  pub more : List ℕ
  pub consumed : Consumes old new more
  pub read : HasRead r new (given ++ line ∷ []) (taken ++ more)
  pub in_time : IsInTime r.last Lines given (taken ++ more)

-- a reader gave its memory away, with the lines that it had given since the last read
pub record GivesAway (old new : Reading) : Type 0 where
  pub stays : new ≡ record old { cutter = record old.cutter { front = []; line = [] } }
  pub goes : (left : Option (List ℕ)) (given : List (List ℕ)) (taken : List ℕ) → HasRead old left given taken → HasRead new left given taken

-- the lines that a reader gave since the last read can be those of a window: they are this many, each of as many bytes
-- with what ended it, and the bytes that no line given has are few enough to be copied
pub record HasPage (most count each : ℕ) (r : Reading) : Type 0 where
  pub room : count ≤ most
  pub run : IsRun count r.cutter.front
  pub even : IsEven each count r.cutter.front
  pub small : length r.cutter.front < full_bytes
  pub few : length r.cutter.rest ≤ line_limit + 1

-- of lines that went on, the last came now
abbrev pub EndsWithLine : List (List ℕ) → List (List ℕ) → Type 0
EndsWithLine old new = (front : List (List ℕ)) × (line : List ℕ) × (new ≡ front ++ line ∷ []) × Begins old front

-- the lines of a window went on by those that a reader held, until it was full, or none was left, or one refused
pub record TakesHeld (kind : Kind) (most : ℕ) (old new : List (List ℕ)) (r r' : Reading) (result : Result Bool Fault) : Type 0 where
  pub full : result ≡ Ok true → IsFullWindow most new
  pub unfilled : result ≢ Ok true → FillsNone most new
  pub good : All (IsGood kind) new
  pub last : result ≡ Ok true → EndsWithLine old new
  pub read : OnOk result ((left : Option (List ℕ)) (given : List (List ℕ)) (taken : List ℕ) → HasRead r left (given ++ old) taken → HasRead r' left (given ++ new) taken)
  pub none : result ≡ Ok false → (left : Option (List ℕ)) (given : List (List ℕ)) (taken : List ℕ) → HasRead r left (given ++ old) taken → HoldsNone r' (given ++ new) taken
  pub few : (left : Option (List ℕ)) (given : List (List ℕ)) (taken : List ℕ) → HasRead r left (given ++ old) taken → length (given ++ new) ≤ most_kept
  pub stopped : IfErr result (λ why. (first left : Option (List ℕ)) (given : List (List ℕ)) (taken : List ℕ) → Consumes first left taken → HasRead r left (given ++ old) taken
      → Ends r'.last Lines r.most (λ lines. lines ≡ given ++ new) (RefusesLine kind (given ++ new)) first left why)

-- the lines of a window went on by those that a reader held, and it stays unfilled
pub record TakesMore (kind : Kind) (most : ℕ) (old new : List (List ℕ)) (r r' : Reading) : Type 0 where
  pub begins : Begins old new
  pub unfilled : FillsNone most new
  pub good : All (IsGood kind) new
  pub read : (left : Option (List ℕ)) (given : List (List ℕ)) (taken : List ℕ) → HasRead r left (given ++ old) taken → HasRead r' left (given ++ new) taken

-- some lines that a reader held went to the end of a window's: no beginning of these fills it, unless all do
pub record TakesSome (kind : Kind) (most : ℕ) (old new : List (List ℕ)) (r r' : Reading) : Type 0 where
  pub last : EndsWithLine old new
  pub unfilled : (n : ℕ) → n < length new → fills most (take n new) ≡ false
  pub good : All (IsGood kind) new
  pub read : (left : Option (List ℕ)) (given : List (List ℕ)) (taken : List ℕ) → HasRead r left (given ++ old) taken → HasRead r' left (given ++ new) taken

-- of lines that come from a place on after this many, those before the first that is no item stay
pub record RefusesFrom (kind : Kind) (before : ℕ) (why : Fault) (first : ℕ) (old new : List (List ℕ)) : Type 0 where
  pub place : ℕ
  pub after : first ≤ place
  pub within : place < length old
  pub kept : new ≡ take place old
  pub good : All (IsGood kind) (drop first new)
  pub fault : why ≡ BadItem (before + (place - first) + 1)
  pub refused : IsBad kind (slice_index_or old place [])
