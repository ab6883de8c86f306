use Rattle.std.proofs.Common.{◌≡◌, ◌≤◌}
use Rattle.sk_desks.specs.Entries.{window_lines}
use Rattle.sk_desks.proofs.LaneLaws.{GatherGoes}
use Rattle.sk_desks.proofs.lanes.gather_and_give.Given as goal

abbrev pub invariant-stretch : goal.invariant-stretch
invariant-stretch g l = record {
  goes : GatherGoes l.initial.gatherer.names.now l.fn.supply.outlets l.supply.outlets l.initial.gatherer.reader l.gatherer.reader (g.S.Source.left l.initial.source) (g.S.Source.left l.source);
  most : l.next.most ≡ window_lines;
  same : l.supply.most ≡ window_lines;
  piece : l.initial.gatherer.reader.last ≤ g.S.Source.last l.initial.source → l.gatherer.reader.last ≤ g.S.Source.last l.source;
  names : l.gatherer.names.now ≡ l.initial.gatherer.names.now;
  steady : g.S.Source.faults l.source ≡ g.S.Source.faults l.initial.source;
  stays : g.S.Source.stands_on l.source ≡ g.S.Source.stands_on l.initial.source;
}
