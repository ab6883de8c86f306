use Rattle.std.proofs.Common.{◌≡◌, ◌≤◌, ◌+◌, cond}
use Rattle.sk_read.specs.Reading.{remaining_of}
use Rattle.sk_feed.specs.Hubs.{hub_of}
use Rattle.sk_ingest.proofs.StretchLaws.{StretchesWent}
use Rattle.sk_ingest.proofs.stretches.ingest_stretches.Given as goal

abbrev pub invariant-stretch : goal.invariant-stretch
invariant-stretch g l = let k = g.C.Composable in record {
  went : StretchesWent k.keeps_of k.hint_of l.plan l.stretch.windows l.stretch.first l.more (hub_of l.fn.opened) (hub_of l.opened) l.reader (g.S.Source.left l.fn.source) (g.S.Source.left l.source);
  stretch : l.stretch.most ≡ l.plan.window;
  piece : l.reader.last ≤ g.S.Source.last l.source;
  steady : g.S.Source.faults l.source ≡ g.S.Source.faults l.fn.source;
  stays : g.S.Source.stands_on l.source ≡ g.S.Source.stands_on l.fn.source;
}

abbrev pub decreases-stretch : goal.decreases-stretch
decreases-stretch g l = cond l.more (remaining_of l.reader + 1) 0
