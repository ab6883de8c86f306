-- Where a text of records stands, byte by byte, and where it may be cut.
use Rattle.std.specs.Prelude.{◌≡◌, ◌⊎◌, ℕ, ◌<◌, Bool, true, false, List, [], ◌∷◌, ◌++◌, length, ⊤}
use Rattle.csv.specs.Machine.{step}
use Rattle.csv.specs.Reading.{default_config}
use Rattle.csv.specs.declared.parser.State.{State}
use Rattle.csv.specs.declared.parser.State.TheVariants as st
use Rattle.sk_read.specs.declared.records.scan.ScanState.{ScanState}
use Rattle.sk_read.specs.declared.records.scan.ScanState.TheVariants as scan

-- the state of csv's machine at a place
abbrev pub state_of : ScanState → State
state_of scan.Between = st.StartRecord
state_of scan.FieldStart = st.StartField
state_of scan.InField = st.InField
state_of scan.InQuotes = st.InQuoted
state_of scan.AfterQuote = st.AfterQuote

-- a state, where the one after a CR that ended a record is that between two records: both continue alike
abbrev pub settled : State → State
settled st.AfterCr = st.StartRecord
settled state = state

-- LF and CR
abbrev pub IsEnd : ℕ → Type 0
IsEnd byte = (byte ≡ 10) ⊎ (byte ≡ 13)

-- a state inside a record
abbrev pub is_inside : State → Bool
is_inside st.StartField = true
is_inside st.InField = true
is_inside st.InQuoted = true
is_inside st.AfterQuote = true
is_inside _ = false

-- the state after a text, from a state
unfoldable pub state_after : State → List ℕ → State
state_after state [] = settled state
state_after state (byte ∷ rest) = state_after (step default_config state byte).0 rest

-- after each byte of a text, from a state, it stands inside a record
unfoldable pub StaysInside : State → List ℕ → Type 0
StaysInside state [] = ⊤
StaysInside state (byte ∷ rest) = (is_inside (step default_config state byte).0 ≡ true) × StaysInside (step default_config state byte).0 rest

-- a text, from a state, in two: its prefix up to the last place between two records that it has
-- after its start, and the rest
pub record IsCut (start : State) (text : List ℕ) (state : State) (cut : ℕ) : Type 0 where
  pub front : List ℕ
  pub back : List ℕ
  pub joined : text ≡ front ++ back
  pub size : length front ≡ cut
  pub between : 0 < cut → state_after start front ≡ st.StartRecord
  pub inside : StaysInside (state_after start front) back
  pub ends : state ≡ state_after start text
