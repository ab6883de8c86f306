use Rattle.std.proofs.Common.{◌≡◌, ◌<◌, ◌≤◌, length}
use Rattle.sk_read.specs.Reading.{remaining_of}
use Rattle.sk_fill.specs.Windows.{all_lines}
use Rattle.sk_fill.specs.Stretches.{HaveFewer}
use Rattle.sk_desks.specs.Entries.{window_lines}
use Rattle.sk_desks.proofs.StretchLaws.{HasGathered}
use Rattle.sk_desks.proofs.stretch.gather_stretch.Given as goal

abbrev pub invariant-window : goal.invariant-window
invariant-window g l = record {
  goes : HasGathered l.initial.gatherer.names.now (all_lines l.stretch.windows) l.initial.gatherer.reader l.gatherer.reader (g.S.Source.left l.initial.source) (g.S.Source.left l.source);
  fewer : 0 < length l.stretch.windows → HaveFewer 32768 524288 l.stretch.windows;
  most : l.stretch.most ≡ window_lines;
  first : l.stretch.first ≡ l.initial.gatherer.reader.cutter.number;
  piece : l.initial.gatherer.reader.last ≤ g.S.Source.last l.initial.source → l.gatherer.reader.last ≤ g.S.Source.last l.source;
  names : l.gatherer.names.now ≡ l.initial.gatherer.names.now;
  steady : g.S.Source.faults l.source ≡ g.S.Source.faults l.initial.source;
  stays : g.S.Source.stands_on l.source ≡ g.S.Source.stands_on l.initial.source;
}

abbrev pub decreases-window : goal.decreases-window
decreases-window g l = remaining_of l.gatherer.reader
