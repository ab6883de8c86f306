use Rattle.std.proofs.Common.{◌≡◌, ◌<◌, ◌≤◌, length}
use Rattle.sk_read.specs.Reading.{remaining_of}
use Rattle.sk_fill.specs.Stretches.{stretch_bytes, HaveFewer, StretchGoes}
use Rattle.sk_fill.proofs.stretch.fill_stretch.Given as goal

abbrev pub invariant-window : goal.invariant-window
invariant-window g l = record {
  goes : StretchGoes l.kind l.fn.stretch.most l.stretch.windows l.initial.reader l.reader (g.S.Source.left l.initial.source) (g.S.Source.left l.source);
  fewer : 0 < length l.stretch.windows → HaveFewer l.enough stretch_bytes l.stretch.windows;
  most : l.stretch.most ≡ l.fn.stretch.most;
  first : l.stretch.first ≡ l.initial.reader.cutter.number;
  piece : l.initial.reader.last ≤ g.S.Source.last l.initial.source → l.reader.last ≤ g.S.Source.last l.source;
  steady : g.S.Source.faults l.source ≡ g.S.Source.faults l.initial.source;
  stays : g.S.Source.stands_on l.source ≡ g.S.Source.stands_on l.initial.source;
}

abbrev pub decreases-window : goal.decreases-window
decreases-window g l = remaining_of l.reader
