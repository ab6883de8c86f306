use Rattle.std.proofs.Common.{◌≡◌, ◌+◌, ◌-◌, ◌≤◌, List, ◌++◌, length, drop}
use Rattle.csv.specs.Reading.{default_config, records}
use Rattle.sk_model.specs.Limits.{most_kept}
use Rattle.sk_read.specs.Records.{Row}
use Rattle.sk_read.specs.Columns.{HasRows}
use Rattle.sk_read.proofs.records.column.ColumnReader.give_records.Given as goal

abbrev pub invariant-group : goal.invariant-group
invariant-group g l = record {
  given : List Row;
  split : records default_config l.fn.text ≡ given ++ records default_config (drop l.at l.fn.text);
  has : (start : _) (rows : List Row) → length rows + length (records default_config l.fn.text) ≤ most_kept → HasRows l.initial.self (g.T.UnitTaker.went start l.initial.taker) rows →
      HasRows l.self (g.T.UnitTaker.went start l.taker) (rows ++ given);
  column : l.self.column ≡ l.initial.self.column;
  standing : g.T.UnitTaker.stands_on l.taker ≡ g.T.UnitTaker.stands_on l.initial.taker;
}

abbrev pub decreases-group : goal.decreases-group
decreases-group g l = length l.fn.text - l.at
