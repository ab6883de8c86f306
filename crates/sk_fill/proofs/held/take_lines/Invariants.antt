use Rattle.std.proofs.Common.{◌≡◌, ◌≤◌}
use Rattle.sk_read.specs.Reading.{remaining_of}
use Rattle.sk_fill.specs.Fills.{TakesMore}
use Rattle.sk_fill.proofs.held.take_lines.Given as goal

abbrev pub invariant-line : goal.invariant-line
invariant-line l = record {
  more : TakesMore l.kind l.window.most l.initial.window.lines l.window.lines l.initial.reader l.reader;
  most : l.window.most ≡ l.initial.window.most;
  fewer : remaining_of l.reader ≤ remaining_of l.initial.reader;
  bound : l.reader.most ≡ l.initial.reader.most;
  piece : l.reader.last ≡ l.initial.reader.last;
}

abbrev pub decreases-line : goal.decreases-line
decreases-line l = remaining_of l.reader
