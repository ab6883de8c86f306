-- What is known of the records that a table has taken, and why it takes no further one.
use Rattle.std.specs.Prelude.{◌≡◌, ◌≢◌, ◌⊎◌, ℕ, ◌+◌, ◌<◌, ◌≤◌, List, [], ◌∷◌, ◌++◌, length, Option, Some, None}
use Rattle.sk_model.specs.Limits.{line_limit}
use Rattle.sk_model.specs.Missing.{Begins}
use Rattle.sk_read.specs.declared.fault.Fault.{Fault}
use Rattle.sk_read.specs.declared.fault.Fault.TheVariants as fault
use Rattle.sk_read.specs.declared.records.column.ColumnReader.{ColumnReader}
use Rattle.sk_read.specs.Records.{Row, field_of, fields_in, width_of, AreEven, AreSoundRows}

-- how many fields the first record has, if there is one
abbrev pub first_width : List Row → Option ℕ
first_width [] = None
first_width (row ∷ rows) = Some (length row)

-- the table has taken these records, and no other, and a taker was given their fields
pub record HasRows (t : ColumnReader) (Gave : List (List ℕ) → Type 0) (rows : List Row) : Type 0 where
  pub number : t.number ≡ length rows
  pub width : t.width ≡ first_width rows
  pub sound : AreSoundRows t.column rows
  pub gave : Gave (fields_in t.column rows)

-- how many fields a record has, and the one in a column, where it has that
abbrev pub IsFieldOf : ℕ → Row → ℕ → List ℕ → Type 0
IsFieldOf column row width field = (width ≡ length row) × (column < length row → field ≡ field_of column row)

-- the next record after these is sound, and a taker stopped at its field, for this fault
abbrev pub StopsBehind : ℕ → (Fault → List (List ℕ) → List ℕ → Type 0) → List Row → Row → Fault → Type 0
StopsBehind column Stopped rows row fault = AreSoundRows column (rows ++ row ∷ []) × Stopped fault (fields_in column rows) (field_of column row)

-- why the next record after these is refused
abbrev pub Refuses : ℕ → (List (List ℕ) → Type 0) → (Fault → List (List ℕ) → List ℕ → Type 0) → List Row → Row → Fault → Type 0
Refuses column Gave Stopped rows row (fault.BadCsv n) =
    (n ≡ length rows + 1) × ((length row ≢ width_of (rows ++ row ∷ [])) ⊎ (length row ≤ column)) × Gave (fields_in column rows)
Refuses column Gave Stopped rows row (fault.LongLine n) =
    (n ≡ length rows + 1) × AreEven column (rows ++ row ∷ []) × (line_limit < length (field_of column row)) × Gave (fields_in column rows)
Refuses column Gave Stopped rows row (fault.BadItem n) = (n ≡ length rows + 1) × StopsBehind column Stopped rows row (fault.BadItem n)
Refuses column Gave Stopped rows row fault.OutOfMemory = StopsBehind column Stopped rows row fault.OutOfMemory
Refuses column Gave Stopped rows row fault.WriteFault = StopsBehind column Stopped rows row fault.WriteFault
Refuses column Gave Stopped rows row _ = ⊥

-- after these records, the first of some more that is refused, by this fault
pub record EndsAt (column : ℕ) (Gave : List (List ℕ) → Type 0) (Stopped : Fault → List (List ℕ) → List ℕ → Type 0) (rows more : List Row) (fault : Fault) : Type 0 where
  pub some : List Row
  pub next : Row
  pub begins : Begins (some ++ next ∷ []) more
  pub sound : AreSoundRows column (rows ++ some)
  pub refused : Refuses column Gave Stopped (rows ++ some) next fault

-- after these records some of these were given
pub record GivesSome (column : ℕ) (Gave : List (List ℕ) → Type 0) (rows more : List Row) : Type 0 where
  pub some : List Row
  pub begins : Begins some more
  pub sound : AreSoundRows column (rows ++ some)
  pub gave : Gave (fields_in column (rows ++ some))

-- how the taking of some more records ended: at one that is refused, or when memory ran out after some
abbrev pub Breaks : ℕ → (List (List ℕ) → Type 0) → (Fault → List (List ℕ) → List ℕ → Type 0) → List Row → List Row → Fault → Type 0
Breaks column Gave Stopped rows more fault.OutOfMemory = GivesSome column Gave rows more ⊎ EndsAt column Gave Stopped rows more fault.OutOfMemory
Breaks column Gave Stopped rows more other = EndsAt column Gave Stopped rows more other
