use Rattle.std.proofs.Common.{◌≡◌, ◌+◌, ◌-◌, ◌≤◌, List, ◌++◌, length, take, drop}
use Rattle.csv.specs.Reading.{default_config, records}
use Rattle.sk_lines.specs.Spans.{AreBehind, lines_at}
use Rattle.sk_model.specs.Limits.{most_kept}
use Rattle.sk_read.specs.Records.{Row, fields_in}
use Rattle.sk_read.specs.Groups.{HasSeen}
use Rattle.sk_read.proofs.records.column.ColumnReader.read_group.Given as goal

abbrev pub invariant-row : goal.invariant-row
invariant-row l = record {
  some : List Row;
  split : records default_config (drop l.fn.start l.fn.text) ≡ some ++ records default_config (drop l.next.start l.fn.text);
  fields : lines_at (take l.count l.spans) l.held.items ≡ fields_in l.initial.self.column some;
  has : (rows : List Row) → length rows + length (records default_config (drop l.fn.start l.fn.text)) ≤ most_kept → HasSeen l.initial.self rows → HasSeen l.self (rows ++ some);
  few : l.count ≤ 128;
  long : length l.spans ≡ 128;
  within : AreBehind 0 (take l.count l.spans) l.held.items;
  moved : l.fn.start + l.count ≤ l.next.start;
  column : l.self.column ≡ l.initial.self.column;
}

abbrev pub decreases-row : goal.decreases-row
decreases-row l = length l.fn.text - l.next.start
