use Rattle.std.proofs.Common.{◌≡◌, ◌≤◌}
use Rattle.sk_ingest.proofs.SupplyLaws.{SupplyGoes}
use Rattle.sk_ingest.proofs.supply.read_and_give.Given as goal

abbrev pub invariant-stretch : goal.invariant-stretch
invariant-stretch g l = record {
  goes : SupplyGoes l.kind l.fn.next.most l.fn.supply.outlets l.supply.outlets l.initial.reader l.reader (g.S.Source.left l.initial.source) (g.S.Source.left l.source);
  most : l.next.most ≡ l.fn.next.most;
  same : l.supply.most ≡ l.fn.supply.most;
  piece : l.initial.reader.last ≤ g.S.Source.last l.initial.source → l.reader.last ≤ g.S.Source.last l.source;
  steady : g.S.Source.faults l.source ≡ g.S.Source.faults l.initial.source;
  stays : g.S.Source.stands_on l.source ≡ g.S.Source.stands_on l.initial.source;
}
