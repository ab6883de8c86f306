use Rattle.std.proofs.Common.{◌≡◌, ◌≤◌}
use Rattle.sk_read.specs.Reading.{remaining_of}
use Rattle.sk_fill.specs.Fills.{TakesMore}
use Rattle.sk_fill.proofs.held.take_runs.Given as goal

abbrev pub invariant-run : goal.invariant-run
invariant-run l = record {
  more : TakesMore l.kind l.window.most l.initial.window.lines l.window.lines l.initial.reader l.reader;
  most : l.window.most ≡ l.initial.window.most;
  remaining : remaining_of l.reader ≤ remaining_of l.initial.reader;
  bound : l.reader.most ≡ l.initial.reader.most;
  piece : l.reader.last ≡ l.initial.reader.last;
}

abbrev pub decreases-run : goal.decreases-run
decreases-run l = remaining_of l.reader
