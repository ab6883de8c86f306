use Rattle.std.proofs.Common.{◌≡◌, ◌≤◌, ◌+◌, cond}
use Rattle.sk_read.specs.Reading.{remaining_of}
use Rattle.sk_desks.specs.Entries.{window_lines}
use Rattle.sk_desks.specs.Windows.{WentToDesks}
use Rattle.sk_desks.proofs.LaneLaws.{desks}
use Rattle.sk_desks.proofs.command.read_stretches.Given as goal

abbrev pub invariant-stretch : goal.invariant-stretch
invariant-stretch g l = record {
  went : WentToDesks l.plan l.fn.gatherer.names.now (desks l.fn.takers.items) (desks l.takers.items) l.last l.more l.gatherer.reader (g.S.Source.left l.fn.source) (g.S.Source.left l.source);
  most : l.last.most ≡ window_lines;
  names : l.gatherer.names.now ≡ l.fn.gatherer.names.now;
  piece : l.gatherer.reader.last ≤ g.S.Source.last l.source;
  bound : l.gatherer.reader.most ≡ l.fn.gatherer.reader.most;
  steady : g.S.Source.faults l.source ≡ g.S.Source.faults l.fn.source;
  stays : g.S.Source.stands_on l.source ≡ g.S.Source.stands_on l.fn.source;
}

abbrev pub decreases-stretch : goal.decreases-stretch
decreases-stretch g l = cond l.more (remaining_of l.gatherer.reader + 1) 0
