use Rattle.std.proofs.Common.{rules}
use Rattle.sk_feed.specs.Hubs.{hub_of}
use Rattle.sk_feed.proofs.HubLaws.{hub_fed}
use Rattle.sk_ingest.specs.Ingests.{terms_of}
use Rattle.sk_ingest.proofs.Ingestion.{passing_stops}
use Rattle.sk_ingest.proofs.Reports.{stopped_so}
use Rattle.sk_ingest.proofs.passing.pass_on.Goals as goal

pub make_ready-requires : goal.make_ready-requires
make_ready-requires g c =
    let k = g.C.Composable in
    record { hub = hub_fed c.args.plan.now.propagator k.keeps_of k.hint_of c.args.plan.now.kind c.args.round.now.window.lines (hub_of c.args.opened.now) (hub_of c.feed_in_threads.new.opened) c.requires.hub c.in_ok-feed_in_threads.ensures.fed }

pub returns-clause-passes : goal.returns-clause-passes
returns-clause-passes g c = record {
  passed = (
    hub_of c.make_ready.new.opened,
    c.in_ok-make_ready.ensures.fed (hub_of c.args.opened.now) c.args.round.now.window.lines c.in_ok-feed_in_threads.ensures.fed,
    c.in_ok-report_at.ensures.reported,
  );
  stopped = tt;
}

pub returns-in_err-report_at-clause-passes : goal.returns-in_err-report_at-clause-passes
returns-in_err-report_at-clause-passes g c =
    let k = g.C.Composable in let p = g.P.Report in let a = hub_of c.args.opened.now in
    let stopped = c.in_err-report_at.ensures.stopped in
    record {
      passed = search rules;
      stopped = passing_stops (terms_of k.keeps_of k.hint_of p.reports p.breaks c.args.plan.now) c.args.round.now.window.lines c.args.line a (hub_of c.make_ready.new.opened) (hub_of c.report_at.new.opened) c.args.report.now c.report_at.new.report
          c.in_err-report_at.field-0.0 c.from_residual-in_err-report_at.result c.from_residual-in_err-report_at.ensures.1
          (c.in_ok-make_ready.ensures.fed a c.args.round.now.window.lines c.in_ok-feed_in_threads.ensures.fed) (c.in_ok-make_ready.ensures.ready stopped.0) stopped.0 stopped.1;
    }

pub returns-in_err-report_at-clause-report : goal.returns-in_err-report_at-clause-report
returns-in_err-report_at-clause-report g c =
    let p = g.P.Report in
    stopped_so p.faults p.stands_on p.sketch c.in_err-report_at.field-0.0 c.args.report.now c.report_at.new.report c.report_at.result c.from_residual-in_err-report_at.result c.report_at.ensures.report c.in_err-report_at.was c.from_residual-in_err-report_at.ensures.1
