use Rattle.std.proofs.Common.{◌≡◌, ◌≤◌, List, [], ℕ}
use Rattle.std.specs.Io.KnownBytes.{Consumes}
use Rattle.sk_read.specs.Reading.{HasRead, remaining_of}
use Rattle.sk_feed.specs.Hubs.{hub_of}
use Rattle.sk_ingest.specs.Ingests.{terms_of}
use Rattle.sk_ingest.specs.Takers.{IsSetUp, WindowsWent, SameReport}
use Rattle.sk_ingest.proofs.windows.read_windows.Given as goal

abbrev pub invariant-window : goal.invariant-window
invariant-window g l = let k = g.C.Composable in let p = g.P.Report in record {
  given : List (List ℕ);
  taken : List ℕ;
  read : HasRead l.reader (g.S.Source.left l.source) given taken;
  consumed : Consumes (g.S.Source.left l.initial.source) (g.S.Source.left l.source) taken;
  went : WindowsWent (terms_of k.keeps_of k.hint_of p.reports p.breaks l.plan) given (hub_of l.initial.opened) l.initial.report [] (hub_of l.opened) l.report;
  empty : l.round.window.lines ≡ [];
  setup : IsSetUp l.plan l.round.window (hub_of l.opened) (p.sketch l.report);
  most : l.reader.most ≡ l.plan.most;
  piece : l.reader.last ≤ g.S.Source.last l.source;
  steady : g.S.Source.faults l.source ≡ g.S.Source.faults l.initial.source;
  stays : g.S.Source.stands_on l.source ≡ g.S.Source.stands_on l.initial.source;
  feeders : l.round.feeders ≡ l.initial.round.feeders;
  same : SameReport p.faults p.stands_on p.sketch l.initial.report l.report;
}

abbrev pub decreases-window : goal.decreases-window
decreases-window g l = remaining_of l.reader
