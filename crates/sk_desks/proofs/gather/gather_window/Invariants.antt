use Rattle.std.proofs.Common.{◌≡◌, ◌+◌, ◌<◌, ◌≤◌, length}
use Rattle.std.specs.List.{concat}
use Rattle.sk_fill.specs.Windows.{full_bytes}
use Rattle.sk_read.specs.Reading.{remaining_of}
use Rattle.sk_desks.specs.Entries.{window_lines}
use Rattle.sk_desks.specs.Gathers.{GivesNext, GoOnFine}
use Rattle.sk_desks.proofs.gather.gather_window.Given as goal

abbrev pub invariant-piece : goal.invariant-piece
invariant-piece g l = record {
  gives : GivesNext l.window.lines l.initial.reader l.reader (g.S.Source.left l.initial.source) (g.S.Source.left l.source);
  fine : GoOnFine l.initial.window.names l.window.lines;
  room : length l.window.lines + 256 ≤ window_lines;
  small : length (concat l.window.lines) < full_bytes;
  names : l.window.names ≡ l.initial.window.names;
  bound : l.reader.most ≡ l.initial.reader.most;
  piece : l.initial.reader.last ≤ g.S.Source.last l.initial.source → l.reader.last ≤ g.S.Source.last l.source;
  fewer : remaining_of l.reader ≤ remaining_of l.initial.reader;
  steady : g.S.Source.faults l.source ≡ g.S.Source.faults l.initial.source;
  stays : g.S.Source.stands_on l.source ≡ g.S.Source.stands_on l.initial.source;
}

abbrev pub decreases-piece : goal.decreases-piece
decreases-piece g l = remaining_of l.reader
