use Rattle.std.proofs.Common.{rules}
use Rattle.sk_feed.specs.Hubs.{hub_of}
use Rattle.sk_ingest.specs.Takers.{IsSetUp, SameReport, ReportStops}
use Rattle.sk_ingest.proofs.Ingestion.{windows_read}
use Rattle.sk_ingest.proofs.windowed.read_field_windows.Goals as goal

pub returns-clause-read : goal.returns-clause-read
returns-clause-read g c =
    let k = g.C.Composable in let p = g.P.Report in let taker = c.read_units.new.taker in
    windows_read _ k.keeps_of k.hint_of p.reports p.breaks (SameReport p.faults p.stands_on p.sketch c.args.report.now taker.report.now) (ReportStops p.faults p.stands_on p.sketch c.args.report.now taker.report.now) c.args.plan.now taker.plan _ c.of.result c.args.plan.now.most
    (hub_of c.args.opened.now) (hub_of taker.opened.now) _ c.args.report.now taker.report.now _ taker.window.now.lines _ (IsSetUp taker.plan taker.window.now (hub_of taker.opened.now) (p.sketch taker.report.now))
    (g.S.Source.left c.args.source.now) (g.S.Source.left c.read_units.new.source) c.read_units.result
    c.of.ensures (search rules) (search rules) (search rules) c.read_units.ensures.read
