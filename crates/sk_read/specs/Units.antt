-- The units of a text: its lines, or a field of each of its records.
use Rattle.std.specs.Prelude.{ℕ, ◌+◌, ◌-◌, ◌==◌, if◌then◌else◌, List, take}
use Rattle.sk_model.specs.Limits.{line_limit}
use Rattle.sk_model.specs.Lines.{lines_of, open_lines_of, AreWithin, IsFirstLong}
use Rattle.sk_read.specs.declared.units.Units.{Units}
use Rattle.sk_read.specs.declared.units.Units.TheVariants.{Lines, Column}
use Rattle.sk_read.specs.Items.{complete_lines_of}
use Rattle.sk_read.specs.Records.{records_of, complete_records_of, fields_in, AreEven, AreSoundRows, IsUneven}

-- what an intake's column names: the lines at 0, else the fields in that column, counted from 1
abbrev pub units_by : ℕ → Units
units_by column = if column == 0 then Lines else Column (column - 1)

-- the units of a text
abbrev pub units_of : Units → List ℕ → List (List ℕ)
units_of Lines text = lines_of text
units_of (Column c) text = fields_in c (records_of text)

-- the units of a text that may continue which have ended in it
abbrev pub complete_units_of : Units → List ℕ → List (List ℕ)
complete_units_of Lines text = complete_lines_of text
complete_units_of (Column c) text = fields_in c (complete_records_of text)

-- no unit is too long, and each record has as many fields as the first, and the column
abbrev pub IsSound : Units → List ℕ → Type 0
IsSound Lines text = AreWithin line_limit (lines_of text)
IsSound (Column c) text = AreSoundRows c (records_of text)

-- so it is with the first units of a text, this many
abbrev pub IsSoundUpTo : Units → ℕ → List ℕ → Type 0
IsSoundUpTo Lines n text = AreWithin line_limit (take n (lines_of text))
IsSoundUpTo (Column c) n text = AreSoundRows c (take n (records_of text))

-- so it is with a text that may continue
abbrev pub IsSoundSoFar : Units → List ℕ → Type 0
IsSoundSoFar Lines text = AreWithin line_limit (open_lines_of text)
IsSoundSoFar (Column c) text = AreSoundRows c (complete_records_of text)

-- after this many units that are sound comes one that is too long
abbrev pub IsLongBehind : Units → ℕ → List ℕ → Type 0
IsLongBehind Lines n text = IsFirstLong line_limit n (lines_of text)
IsLongBehind (Column c) n text = AreEven c (take (n + 1) (records_of text)) × IsFirstLong line_limit n (fields_in c (records_of text))

-- after this many units that are sound comes a record that has not as many fields as the first, or has no
-- such column
abbrev pub IsUnevenBehind : Units → ℕ → List ℕ → Type 0
IsUnevenBehind Lines n text = ⊥
IsUnevenBehind (Column c) n text = IsUneven c n (records_of text)
