use Rattle.std.proofs.Common.{◌≡◌, ◌≤◌, List, ℕ}
use Rattle.std.specs.Io.KnownBytes.{Consumes}
use Rattle.sk_read.specs.Reading.{HasRead, remaining_of}
use Rattle.sk_read.proofs.lines.read_lines.Given as goal

abbrev pub invariant-line : goal.invariant-line
invariant-line g l = record {
  given : List (List ℕ);
  taken : List ℕ;
  read : HasRead l.reader (g.S.Source.left l.source) given taken;
  consumed : Consumes (g.S.Source.left l.initial.source) (g.S.Source.left l.source) taken;
  gave : g.T.UnitTaker.went l.initial.taker l.taker given;
  most : l.reader.most ≡ l.most;
  piece : l.reader.last ≤ g.S.Source.last l.source;
  steady : g.S.Source.faults l.source ≡ g.S.Source.faults l.initial.source;
  stays : g.S.Source.stands_on l.source ≡ g.S.Source.stands_on l.initial.source;
  standing : g.T.UnitTaker.stands_on l.taker ≡ g.T.UnitTaker.stands_on l.initial.taker;
}

abbrev pub decreases-line : goal.decreases-line
decreases-line g l = remaining_of l.reader
