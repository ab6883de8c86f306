-- Lines of a text by their number, counted from 1.
use Rattle.std.specs.Prelude.{ℕ, ◌-◌, ◌≤◌, List, [], take, slice_index_or}
use Rattle.sk_model.specs.Limits.{line_limit}
use Rattle.sk_model.specs.Lines.{IsFirstLong}
use Rattle.sk_cli.specs.declared.fault.Fault.{Fault}
use Rattle.sk_cli.specs.declared.fault.Fault.TheVariants.{LongLine, BadItem, BadField, BadCsv, BadEvent, BadLine, Backward, UnknownTenant}

-- line n is the first that is too long
abbrev pub IsLongLine : ℕ → List (List ℕ) → Type 0
IsLongLine n lines = (1 ≤ n) × IsFirstLong line_limit (n - 1) lines

-- line n; an empty one, where there is none
abbrev pub line_at : ℕ → List (List ℕ) → List ℕ
line_at n lines = slice_index_or lines (n - 1) []

-- the lines, or the fields of records, before the one that is refused by this fault
abbrev pub lines_before : Fault → List (List ℕ) → List (List ℕ)
lines_before (LongLine n) lines = take (n - 1) lines
lines_before (BadItem n) lines = take (n - 1) lines
lines_before (BadField n) fields = take (n - 1) fields
lines_before (BadCsv n) fields = take (n - 1) fields
lines_before (BadEvent n) lines = take (n - 1) lines
lines_before (BadLine n) lines = take (n - 1) lines
lines_before (Backward n) lines = take (n - 1) lines
lines_before (UnknownTenant n) lines = take (n - 1) lines
lines_before other lines = []
