use Rattle.std.proofs.Common.{◌≡◌, ◌+◌, ◌-◌, ◌<◌, ◌≤◌, ℕ, [], length, drop, slice_index}
use Rattle.sk_read.specs.Records.{Row}
use Rattle.sk_read.specs.Delimiters.{IsNextDelimiter, Knows}
use Rattle.sk_read.specs.PlainLines.{AreFields}
use Rattle.sk_read.specs.Scan.{IsEnd}
use Rattle.sk_read.proofs.PlainLaws.{read_on}
use Rattle.sk_read.proofs.records.plain.cut_line.Given as goal

abbrev pub invariant-comma : goal.invariant-comma
invariant-comma l = record {
  row : Row;
  fields : AreFields l.column l.text row l.fields;
  read : read_on [] [] (drop l.start l.text) ≡ read_on row [] (drop l.at l.text);
  next : IsNextDelimiter l.text l.at l.place;
  known : l.place < length l.text → Knows l.text (l.place + 1) l.ahead;
  from : l.start ≤ l.at;
  few : l.fields.width ≤ l.at;
  none : (i : ℕ) → l.start ≤ i → i < l.at → ¬ IsEnd (slice_index l.text i);
}

abbrev pub decreases-comma : goal.decreases-comma
decreases-comma l = length l.text + 1 - l.at
