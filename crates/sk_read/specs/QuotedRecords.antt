-- The records of a text with quotes, field by field, as csv's machine reads them.
use Rattle.std.specs.Prelude.{◌≡◌, ◌≢◌, ℕ, ◌+◌, ◌<◌, ◌≤◌, Bool, true, false, List, [], ◌∷◌, ◌++◌, length, drop, slice_index}
use Rattle.csv.specs.Reading.{default_config, records}
use Rattle.csv.specs.declared.parser.State.TheVariants as st
use Rattle.sk_read.specs.Records.{Row, field_of}
use Rattle.sk_read.specs.Runs.{run}
use Rattle.sk_read.specs.declared.records.quoted.Record.{Record}

-- these bytes, if they are kept
abbrev pub kept : Bool → List ℕ → List ℕ
kept true bytes = bytes
kept false bytes = []

-- from a place between quotes up to another these bytes join the field at hand, and from there on it is read as one
-- without quotes
pub record LeavesQuotes (text : List ℕ) (start to : ℕ) (more : List ℕ) : Type 0 where
  pub from : start ≤ to
  pub within : to ≤ length text
  pub goes : (row : Row) (hand : List ℕ) → run st.InQuoted row hand (drop start text) ≡ run st.InField row (hand ++ more) (drop to text)

-- the field that begins at a place, and ends at a comma, or with its record
pub record IsField (text : List ℕ) (start to : ℕ) (field : List ℕ) : Type 0 where
  pub from : start ≤ to
  pub within : to ≤ length text
  pub goes : to < length text → slice_index text to ≡ 44 → (row : Row) → run st.StartField row [] (drop start text) ≡ run st.StartField (row ++ field ∷ []) [] (drop (to + 1) text)
  pub ends : (to < length text → slice_index text to ≢ 44) → (row : Row) → run st.StartField row [] (drop start text) ≡ (row ++ field ∷ []) ∷ records default_config (drop (to + 1) text)

-- the record at a place: this many fields, and this one in a column
pub record IsRecord (column : ℕ) (text : List ℕ) (start : ℕ) (r : Record) (field : List ℕ) : Type 0 where
  pub row : Row
  pub split : records default_config (drop start text) ≡ row ∷ records default_config (drop r.end text)
  pub width : r.width ≡ length row
  pub kept : field ≡ field_of column row
  pub past : start < r.end
