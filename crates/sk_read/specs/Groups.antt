-- The next records of a text, taken many together.
use Rattle.std.specs.Prelude.{◌≡◌, ℕ, ◌+◌, ◌<◌, ◌≤◌, List, [], ◌∷◌, ◌++◌, length, drop, slice_range, Option, Some, None, ⊤}
use Rattle.csv.specs.Reading.{default_config, records}
use Rattle.sk_lines.specs.Spans.{lines_at}
use Rattle.sk_lines.specs.declared.spans.Span.{Span}
use Rattle.sk_model.specs.Limits.{most_kept}
use Rattle.sk_model.specs.Missing.{Begins}
use Rattle.sk_read.specs.declared.fault.Fault.{Fault}
use Rattle.sk_read.specs.declared.fault.Fault.TheVariants as fault
use Rattle.sk_read.specs.declared.records.column.ColumnReader.{ColumnReader}
use Rattle.sk_read.specs.declared.records.column.Place.{Place}
use Rattle.sk_read.specs.Columns.{HasRows, Refuses}
use Rattle.sk_read.specs.Delimiters.{Knows}
use Rattle.sk_read.specs.Records.{Row, field_of, fields_in, AreSoundRows}

-- the table has taken these records, and no other, whether or not a taker has their fields yet
abbrev pub HasSeen : ColumnReader → List Row → Type 0
HasSeen t rows = HasRows t (λ _. ⊤) rows

-- why the next record after these is refused, by its fields alone
abbrev pub RefusesRow : ℕ → List Row → Row → Fault → Type 0
RefusesRow column rows row fault = Refuses column (λ _. ⊤) (λ _ _ _. ⊥) rows row fault

-- what is known of a text after a place
abbrev pub KnowsAfter : List ℕ → Place → Type 0
KnowsAfter text place = place.start < length text → Knows text place.start place.ahead

-- the table has taken these records, or the first of those that follow is refused, or memory ran out before it
abbrev pub HasSeenOrRefused : ColumnReader → List Row → List Row → Option Fault → Type 0
HasSeenOrRefused t rows following None = HasSeen t rows
HasSeenOrRefused t rows following (Some fault.OutOfMemory) = AreSoundRows t.column rows
HasSeenOrRefused t rows following (Some fault) = AreSoundRows t.column rows × ((row : Row) × Begins (row ∷ []) following × RefusesRow t.column rows row fault)

-- from one place in a text up to another lie some records, with their fields in the column in some bytes, and the table
-- takes them after any others for which there is room
pub record CutsGroup (old new : ColumnReader) (text bytes : List ℕ) (from to : ℕ) (spans : List Span) (refused : Option Fault) : Type 0 where
  pub some : List Row
  pub split : records default_config (drop from text) ≡ some ++ records default_config (drop to text)
  pub fields : lines_at spans bytes ≡ fields_in old.column some
  pub has : (rows : List Row) → length rows + length (records default_config (drop from text)) ≤ most_kept → HasSeen old rows →
      HasSeenOrRefused new (rows ++ some) (records default_config (drop to text)) refused

-- the record at a place of a text, with its field in the column in some bytes, and the table takes it after any others
-- for which there is room
pub record TakesRow (old new : ColumnReader) (text bytes : List ℕ) (from to : ℕ) (span : Span) : Type 0 where
  pub row : Row
  pub split : records default_config (drop from text) ≡ row ∷ records default_config (drop to text)
  pub order : span.from ≤ span.to
  pub within : span.to ≤ length bytes
  pub field : slice_range bytes span.from span.to ≡ field_of old.column row
  pub has : (rows : List Row) → length rows < most_kept → HasSeen old rows → HasSeen new (rows ++ row ∷ [])
  pub past : from < to
