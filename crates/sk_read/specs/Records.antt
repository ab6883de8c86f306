-- The records of a text of comma-separated values, a column of them, and which of them are refused.
use Rattle.std.specs.Prelude.{◌≡◌, ◌≢◌, ◌⊎◌, ℕ, ◌-◌, ◌<◌, ◌≤◌, List, [], ◌++◌, length, take, map, All, slice_index_or, codes}
use Rattle.csv.specs.Reading.{default_config, records, strip_bom}
use Rattle.sk_model.specs.Lines.{AreWithin}
use Rattle.sk_model.specs.Limits.{line_limit}

-- the fields of a record
abbrev pub Row : Type 0
Row = List (List ℕ)

-- every record of a text, with no byte order mark at its start
unfoldable pub records_of : List ℕ → List Row
records_of text = records default_config (strip_bom text)

-- the records of a text that may continue, one byte put after it: whatever follows, no record before
-- the last one changes, and that one has not ended
abbrev pub open_records_of : List ℕ → List Row
open_records_of text = records_of (text ++ codes "x")

-- the records of a text that may continue which have ended in it
abbrev pub complete_records_of : List ℕ → List Row
complete_records_of text = take (length (open_records_of text) - 1) (open_records_of text)

-- the field in a column, counted from 0, of each record
abbrev pub field_of : ℕ → Row → List ℕ
field_of column row = slice_index_or row column []

abbrev pub fields_in : ℕ → List Row → List (List ℕ)
fields_in column rows = map (field_of column) rows

-- how many fields the first of these records has
abbrev pub width_of : List Row → ℕ
width_of records = length (slice_index_or records 0 [])

-- each record has as many fields as the first, and has this column
abbrev pub AreEven : ℕ → List Row → Type 0
AreEven column rows = All (λ row. (length row ≡ width_of rows) × (column < length row)) rows

-- each record has as many fields as the first and a field in this column, which is not too long
pub record AreSoundRows (column : ℕ) (rows : List Row) : Type 0 where
  pub even : AreEven column rows
  pub within : AreWithin line_limit (fields_in column rows)

-- after this many records that are sound comes one that has not as many fields as the first or no such column
pub record IsUneven (column n : ℕ) (rows : List Row) : Type 0 where
  pub to : n < length rows
  pub before : AreSoundRows column (take n rows)
  pub uneven : (length (slice_index_or rows n []) ≢ width_of rows) ⊎ (length (slice_index_or rows n []) ≤ column)
