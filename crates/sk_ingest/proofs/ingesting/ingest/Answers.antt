use Rattle.std.proofs.Common.{◌≡◌, [], false, refl, inl, inr, rules}
use Rattle.sk_read.specs.declared.fault.Fault.TheVariants as fault
use Rattle.sk_read.specs.Units.{units_by}
use Rattle.sk_read.specs.Reads.{ReadsAll, Ends}
use Rattle.sk_feed.specs.Hubs.{hub_of}
use Rattle.sk_ingest.specs.Ingests.{terms_of, Ingests, GoesSoFar, StopsAtUnit, EndsEarly}
use Rattle.sk_ingest.specs.Takers.{UnitsWent, WindowsWent, unreported}
use Rattle.sk_feed.proofs.HubLaws.{few_none, few_room}
use Rattle.sk_fill.proofs.Readings.{read_ok, read_err, nothing_came, if_err_is, all_by, ends_by, if_ok_then, if_err_then}
use Rattle.sk_ingest.proofs.Endings.{short_of_memory}
use Rattle.sk_ingest.proofs.Ingestion.{windows_start, rest_fed}
use Rattle.sk_ingest.proofs.OneByOneLaws.{alone_start, ingests_quietly, went_so_far, stops_quietly, early_quietly}
use Rattle.sk_ingest.proofs.ingesting.ingest.Goals as goal

pub ingest_one_by_one-requires-clause-start : goal.ingest_one_by_one-requires-clause-start
ingest_one_by_one-requires-clause-start g c =
    let k = g.C.Composable in let hub = hub_of c.args.opened.now in
    alone_start (unreported k.keeps_of k.hint_of c.args.plan.now) hub tt c.requires.window.0 c.requires.hub (few_none c.args.opened.now.heart.view.numbers hub.updaters c.requires.fresh)

pub returns-then-not-plan-clause-ok : goal.returns-then-not-plan-clause-ok
returns-then-not-plan-clause-ok g c =
    let k = g.C.Composable in let p = g.P.Report in let plan = c.args.plan.now in let hub = hub_of c.args.opened.now in let r = c.args.report.now in
    let t = terms_of k.keeps_of k.hint_of p.reports p.breaks plan in let last = hub_of c.ingest_one_by_one.new.opened in
    read_ok _ (units_by plan.column) plan.most (λ units. UnitsWent (unreported k.keeps_of k.hint_of plan) units hub tt last tt) (λ units. Ingests t units hub r last r) (StopsAtUnit (unreported k.keeps_of k.hint_of plan) hub tt tt)
    (g.S.Source.left c.args.source.now) (g.S.Source.left c.ingest_one_by_one.new.source) c.ingest_one_by_one.result (λ units went. ingests_quietly t units hub last tt tt r c.if-not-plan.true went.ingests) c.ingest_one_by_one.ensures.read

pub returns-then-not-plan-clause-refused : goal.returns-then-not-plan-clause-refused
returns-then-not-plan-clause-refused g c =
    let k = g.C.Composable in let p = g.P.Report in let plan = c.args.plan.now in let hub = hub_of c.args.opened.now in let r = c.args.report.now in
    let t = terms_of k.keeps_of k.hint_of p.reports p.breaks plan in let last = hub_of c.ingest_one_by_one.new.opened in
    let left = g.S.Source.left c.args.source.now in let left' = g.S.Source.left c.ingest_one_by_one.new.source in
    if_err_then c.ingest_one_by_one.result (λ why. Ends (g.S.Source.last c.ingest_one_by_one.new.source) (units_by plan.column) plan.most (GoesSoFar t hub r r) (StopsAtUnit t hub r r) left left' why) (λ why. EndsEarly t (g.S.Source.last c.ingest_one_by_one.new.source) (units_by plan.column) left left' hub r r why)
    (read_err _ (units_by plan.column) plan.most (λ units. UnitsWent (unreported k.keeps_of k.hint_of plan) units hub tt last tt) (GoesSoFar t hub r r) (StopsAtUnit (unreported k.keeps_of k.hint_of plan) hub tt tt) (StopsAtUnit t hub r r) left left' c.ingest_one_by_one.result
    (λ units went. went_so_far t units hub last tt tt r c.if-not-plan.true went) (λ why units unit stops. stops_quietly t units unit hub tt tt r why c.if-not-plan.true stops) c.ingest_one_by_one.ensures.read)
    (λ why ends. inl ends)

pub returns-then-is_read_ahead-clause-ok : goal.returns-then-is_read_ahead-clause-ok
returns-then-is_read_ahead-clause-ok g c =
    let k = g.C.Composable in let p = g.P.Report in let plan = c.args.plan.now in let hub = hub_of c.args.opened.now in let r = c.args.report.now in
    let t = terms_of k.keeps_of k.hint_of p.reports p.breaks plan in let u = unreported k.keeps_of k.hint_of plan in let last = hub_of c.ingest_stretches.new.opened in
    let old = g.S.Source.left c.args.source.now in let new = g.S.Source.left c.ingest_stretches.new.source in
    if_ok_then c.ingest_stretches.result (λ n. ReadsAll (units_by plan.column) plan.most n (λ units. Ingests u units hub tt last tt) old new) (λ n. ReadsAll (units_by plan.column) plan.most n (λ units. Ingests t units hub r last r) old new) c.ingest_stretches.ensures.ok
    (λ n reads. all_by (units_by plan.column) plan.most n (λ units. Ingests u units hub tt last tt) (λ units. Ingests t units hub r last r) old new
    (λ units went. ingests_quietly t units hub last tt tt r (c.is_read_ahead.ensures.unreported c.if-is_read_ahead.true) went) reads)

pub returns-then-is_read_ahead-clause-refused : goal.returns-then-is_read_ahead-clause-refused
returns-then-is_read_ahead-clause-refused g c =
    let k = g.C.Composable in let p = g.P.Report in let plan = c.args.plan.now in let hub = hub_of c.args.opened.now in let r = c.args.report.now in
    let t = terms_of k.keeps_of k.hint_of p.reports p.breaks plan in
    let old = g.S.Source.left c.args.source.now in let new = g.S.Source.left c.ingest_stretches.new.source in
    if_err_then c.ingest_stretches.result (λ why. EndsEarly (unreported k.keeps_of k.hint_of plan) (g.S.Source.last c.ingest_stretches.new.source) (units_by plan.column) old new hub tt tt why) (λ why. EndsEarly t (g.S.Source.last c.ingest_stretches.new.source) (units_by plan.column) old new hub r r why) c.ingest_stretches.ensures.refused
    (λ why ends. early_quietly t (g.S.Source.last c.ingest_stretches.new.source) (units_by plan.column) old new hub tt tt r why (c.is_read_ahead.ensures.unreported c.if-is_read_ahead.true) ends)

pub ingest_fields-requires-clause-start : goal.ingest_fields-requires-clause-start
ingest_fields-requires-clause-start g c =
    let k = g.C.Composable in let hub = hub_of c.args.opened.now in
    windows_start (unreported k.keeps_of k.hint_of c.args.plan.now) hub tt c.requires.window.0 c.requires.hub (few_none c.args.opened.now.heart.view.numbers hub.updaters c.requires.fresh)

pub returns-then-plan-gt0-clause-ok : goal.returns-then-plan-gt0-clause-ok
returns-then-plan-gt0-clause-ok g c =
    let k = g.C.Composable in let p = g.P.Report in let plan = c.args.plan.now in let hub = hub_of c.args.opened.now in let r = c.args.report.now in
    let t = terms_of k.keeps_of k.hint_of p.reports p.breaks plan in let u = unreported k.keeps_of k.hint_of plan in let last = hub_of c.ingest_fields.new.opened in
    let old = g.S.Source.left c.args.source.now in let new = g.S.Source.left c.ingest_fields.new.source in
    let off : plan.interim ≡ false = search rules in
    if_ok_then c.ingest_fields.result (λ n. ReadsAll (units_by plan.column) plan.most n (λ units. Ingests u units hub tt last tt) old new) (λ n. ReadsAll (units_by plan.column) plan.most n (λ units. Ingests t units hub r last r) old new) c.ingest_fields.ensures.ok
    (λ n reads. all_by (units_by plan.column) plan.most n (λ units. Ingests u units hub tt last tt) (λ units. Ingests t units hub r last r) old new
    (λ units went. ingests_quietly t units hub last tt tt r off went) reads)

pub returns-then-plan-gt0-clause-refused : goal.returns-then-plan-gt0-clause-refused
returns-then-plan-gt0-clause-refused g c =
    let k = g.C.Composable in let p = g.P.Report in let plan = c.args.plan.now in let hub = hub_of c.args.opened.now in let r = c.args.report.now in
    let t = terms_of k.keeps_of k.hint_of p.reports p.breaks plan in
    let old = g.S.Source.left c.args.source.now in let new = g.S.Source.left c.ingest_fields.new.source in
    let off : plan.interim ≡ false = search rules in
    if_err_then c.ingest_fields.result (λ why. EndsEarly (unreported k.keeps_of k.hint_of plan) (g.S.Source.last c.ingest_fields.new.source) (units_by plan.column) old new hub tt tt why) (λ why. EndsEarly t (g.S.Source.last c.ingest_fields.new.source) (units_by plan.column) old new hub r r why) c.ingest_fields.ensures.refused
    (λ why ends. early_quietly t (g.S.Source.last c.ingest_fields.new.source) (units_by plan.column) old new hub tt tt r why off ends)

pub returns-in_err-window-clause-refused : goal.returns-in_err-window-clause-refused
returns-in_err-window-clause-refused g c =
    let k = g.C.Composable in let p = g.P.Report in let plan = c.args.plan.now in let left = g.S.Source.left c.args.source.now in
    let t = terms_of k.keeps_of k.hint_of p.reports p.breaks plan in let hub = hub_of c.args.opened.now in let r = c.args.report.now in
    if_err_is c.from_residual.result fault.OutOfMemory (EndsEarly t _ (units_by plan.column) left left hub r r) c.from_residual.ensures.1
    (inl (nothing_came _ (GoesSoFar t hub r r) (StopsAtUnit t hub r r) (units_by plan.column) plan.most left ([], hub, (windows_start t hub r c.requires.window.0 c.requires.hub (few_none c.args.opened.now.heart.view.numbers (hub_of c.args.opened.now).updaters c.requires.fresh)).goes)))

pub returns-in_err-feeders-clause-refused : goal.returns-in_err-feeders-clause-refused
returns-in_err-feeders-clause-refused g c =
    let k = g.C.Composable in let p = g.P.Report in let plan = c.args.plan.now in let left = g.S.Source.left c.args.source.now in
    let t = terms_of k.keeps_of k.hint_of p.reports p.breaks plan in let hub = hub_of c.args.opened.now in let r = c.args.report.now in
    if_err_is c.from_residual-in_err-feeders.result fault.OutOfMemory (EndsEarly t _ (units_by plan.column) left left hub r r) c.from_residual-in_err-feeders.ensures.1
    (inl (nothing_came _ (GoesSoFar t hub r r) (StopsAtUnit t hub r r) (units_by plan.column) plan.most left ([], hub, (windows_start t hub r c.requires.window.0 c.requires.hub (few_none c.args.opened.now.heart.view.numbers (hub_of c.args.opened.now).updaters c.requires.fresh)).goes)))

pub read_windows-requires-clause-start : goal.read_windows-requires-clause-start
read_windows-requires-clause-start g c κs within =
    let k = g.C.Composable in let p = g.P.Report in let hub = hub_of c.args.opened.now in let r = c.args.report.now in
    let t = terms_of k.keeps_of k.hint_of p.reports p.breaks c.args.plan.now in
    windows_start t hub r c.requires.window.0 c.requires.hub (few_none c.args.opened.now.heart.view.numbers (hub_of c.args.opened.now).updaters c.requires.fresh)

pub feed_in_threads-requires-clause-room : goal.feed_in_threads-requires-clause-room
feed_in_threads-requires-clause-room g c κs within =
    let went = c.in_ok-count.ensures.read.gave in
    few_room _ c.read_windows.new.round.window.lines c.read_windows.new.opened.updaters.items went.few went.small

pub returns-clause-ok : goal.returns-clause-ok
returns-clause-ok g c =
    let k = g.C.Composable in let p = g.P.Report in let plan = c.args.plan.now in let hub = hub_of c.args.opened.now in let r = c.args.report.now in
    let t = terms_of k.keeps_of k.hint_of p.reports p.breaks plan in
    let between = hub_of c.read_windows.new.opened in let s = c.read_windows.new.report in let rest = c.read_windows.new.round.window.lines in let last = hub_of c.feed_in_threads.new.opened in
    all_by (units_by plan.column) plan.most c.in_ok-count.count (λ units. WindowsWent t units hub r rest between s) (λ units. Ingests t units hub r last s) (g.S.Source.left c.args.source.now) (g.S.Source.left c.read_windows.new.source)
    (λ units went. rest_fed t units hub between last r s rest went c.in_ok-feed_in_threads.ensures.fed) c.in_ok-count.ensures.read

pub returns-in_err-count-clause-refused : goal.returns-in_err-count-clause-refused
returns-in_err-count-clause-refused g c =
    let k = g.C.Composable in let p = g.P.Report in let plan = c.args.plan.now in let hub = hub_of c.args.opened.now in let r = c.args.report.now in
    let t = terms_of k.keeps_of k.hint_of p.reports p.breaks plan in
    let between = hub_of c.read_windows.new.opened in let s = c.read_windows.new.report in let rest = c.read_windows.new.round.window.lines in
    let left = g.S.Source.left c.args.source.now in let left' = g.S.Source.left c.read_windows.new.source in let f = c.in_err-count.field-0.0 in
    if_err_is c.from_residual-in_err-count.result f (EndsEarly t _ (units_by plan.column) left left' hub r s) c.from_residual-in_err-count.ensures.1
    (inl (ends_by _ (units_by plan.column) plan.most (λ units. WindowsWent t units hub r rest between s) (GoesSoFar t hub r s) (StopsAtUnit t hub r s) (StopsAtUnit t hub r s) left left' f
    (λ units went. (rest, between, went.goes)) (λ why units unit stops. stops) c.in_err-count.ensures.read))

pub returns-in_err-feed_in_threads-clause-refused : goal.returns-in_err-feed_in_threads-clause-refused
returns-in_err-feed_in_threads-clause-refused g c =
    let k = g.C.Composable in let p = g.P.Report in let plan = c.args.plan.now in let hub = hub_of c.args.opened.now in let r = c.args.report.now in
    let t = terms_of k.keeps_of k.hint_of p.reports p.breaks plan in
    let between = hub_of c.read_windows.new.opened in let s = c.read_windows.new.report in let rest = c.read_windows.new.round.window.lines in
    let left = g.S.Source.left c.args.source.now in let left' = g.S.Source.left c.read_windows.new.source in
    if_err_is c.from_residual-in_err-feed_in_threads.result fault.OutOfMemory (EndsEarly t _ (units_by plan.column) left left' hub r s) c.from_residual-in_err-feed_in_threads.ensures.1
    (inr (
      refl,
      (
        c.in_ok-count.count,
        all_by (units_by plan.column) plan.most c.in_ok-count.count (λ units. WindowsWent t units hub r rest between s) (GoesSoFar t hub r s) left left'
            (λ units went. (rest, between, went.goes)) c.in_ok-count.ensures.read,
      ),
    ))

pub returns-in_err-feed_in_threads-clause-reads : goal.returns-in_err-feed_in_threads-clause-reads
returns-in_err-feed_in_threads-clause-reads g c =
    short_of_memory fault.ReadFault (g.S.Source.faults c.args.source.now) (g.S.Source.faults c.read_windows.new.source) c.in_ok-count.count c.from_residual-in_err-feed_in_threads.result
    c.from_residual-in_err-feed_in_threads.ensures.1 (λ same. cc) c.in_ok-count.ensures.reads

pub returns-in_err-feed_in_threads-clause-writes : goal.returns-in_err-feed_in_threads-clause-writes
returns-in_err-feed_in_threads-clause-writes g c =
    short_of_memory fault.WriteFault (g.P.Report.faults c.args.report.now) (g.P.Report.faults c.read_windows.new.report) c.in_ok-count.count c.from_residual-in_err-feed_in_threads.result
    c.from_residual-in_err-feed_in_threads.ensures.1 (λ same. cc) c.in_ok-count.ensures.report.cause
