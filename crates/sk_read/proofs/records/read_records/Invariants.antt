use Rattle.std.proofs.Common.{◌≡◌, ◌≤◌, List, ℕ}
use Rattle.std.specs.Io.KnownBytes.{Consumes}
use Rattle.sk_read.specs.Records.{Row}
use Rattle.sk_read.specs.Parts.{HasHeld, remaining_of}
use Rattle.sk_read.specs.Columns.{HasRows}
use Rattle.sk_read.proofs.records.read_records.Given as goal

abbrev pub invariant-part : goal.invariant-part
invariant-part g l = record {
  rows : List Row;
  taken : List ℕ;
  held : HasHeld l.parts (g.S.Source.left l.source) rows taken;
  consumed : Consumes (g.S.Source.left l.fn.source) (g.S.Source.left l.source) taken;
  table : HasRows l.table (g.T.UnitTaker.went l.fn.taker l.taker) rows;
  column : l.table.column ≡ l.column;
  most : l.parts.most ≡ l.most;
  piece : l.parts.last ≤ g.S.Source.last l.source;
  steady : g.S.Source.faults l.source ≡ g.S.Source.faults l.fn.source;
  stays : g.S.Source.stands_on l.source ≡ g.S.Source.stands_on l.fn.source;
  standing : g.T.UnitTaker.stands_on l.taker ≡ g.T.UnitTaker.stands_on l.fn.taker;
}

abbrev pub decreases-part : goal.decreases-part
decreases-part g l = remaining_of l.parts
