-- The lines of a text with no quote, as records that csv's machine reads.
use Rattle.std.specs.Prelude.{◌≡◌, ℕ, ◌+◌, ◌<◌, ◌≤◌, List, [], length, drop, slice_index, slice_range, Some}
use Rattle.csv.specs.Machine.{next_record}
use Rattle.csv.specs.Reading.{default_config}
use Rattle.csv.specs.declared.parser.State.{State}
use Rattle.csv.specs.declared.parser.State.TheVariants as st
use Rattle.sk_read.specs.Records.{Row, field_of}
use Rattle.sk_read.specs.Scan.{IsEnd, settled}
use Rattle.sk_read.specs.declared.records.plain.Fields.{Fields}
use Rattle.sk_read.specs.declared.records.plain.Line.{Line}

-- these are the fields of a record: this many, and the one in a column lies there in a text
pub record AreFields (column : ℕ) (text : List ℕ) (row : Row) (fields : Fields) : Type 0 where
  pub width : fields.width ≡ length row
  pub order : fields.field.from ≤ fields.field.to
  pub within : fields.field.to ≤ length text
  pub field : column < length row → slice_range text fields.field.from fields.field.to ≡ field_of column row

-- the line at a place: what csv's machine reads there inside a field is one record, up to the next LF
-- or CR, after which it stands between two records
pub record IsLine (column : ℕ) (text : List ℕ) (start : ℕ) (line : Line) : Type 0 where
  pub row : Row
  pub state : State
  pub read : next_record default_config st.InField [] [] (drop start text) ≡ Some (row, state, drop (line.end + 1) text)
  pub between : settled state ≡ st.StartRecord
  pub fields : AreFields column text row line.fields
  pub from : start ≤ line.end
  pub within : line.end ≤ length text
  pub none : (i : ℕ) → start ≤ i → i < line.end → ¬ IsEnd (slice_index text i)
  pub here : line.end < length text → IsEnd (slice_index text line.end)
