use Rattle.std.proofs.Common.{[], refl, inl, inr}
use Rattle.sk_read.specs.declared.fault.Fault.TheVariants as fault
use Rattle.sk_read.specs.Units.{units_by}
use Rattle.sk_feed.specs.Hubs.{hub_of}
use Rattle.sk_feed.proofs.HubLaws.{few_room}
use Rattle.sk_fill.proofs.Readings.{nothing_came, if_err_is, all_by, ends_by}
use Rattle.sk_ingest.specs.Ingests.{Ingests, GoesSoFar, StopsAtUnit, EndsEarly}
use Rattle.sk_ingest.specs.Takers.{unreported}
use Rattle.sk_ingest.specs.ItemWindows.{ItemsWent}
use Rattle.sk_ingest.proofs.Ingestion.{rest_fed}
use Rattle.sk_ingest.proofs.ItemWindows.{holds_none}
use Rattle.sk_ingest.proofs.itemized.ingest_fields.Goals as goal

pub returns-in_err-window-clause-refused : goal.returns-in_err-window-clause-refused
returns-in_err-window-clause-refused g c =
    let k = g.C.Composable in let plan = c.args.plan.now in let hub = hub_of c.args.opened.now in let left = g.S.Source.left c.args.source.now in
    let t = unreported k.keeps_of k.hint_of plan in
    if_err_is c.from_residual.result fault.OutOfMemory (EndsEarly t _ (units_by plan.column) left left hub tt tt) c.from_residual.ensures.1
    (inl (nothing_came _ (GoesSoFar t hub tt tt) (StopsAtUnit t hub tt tt) (units_by plan.column) plan.most left ([], hub, c.requires.start.goes)))

pub read_fields-requires-clause-plan : goal.read_fields-requires-clause-plan
read_fields-requires-clause-plan g c = record { least = c.requires.window.0; most = c.in_ok-window.ensures.most; unreported = c.requires.unreported }

pub read_fields-requires-clause-start : goal.read_fields-requires-clause-start
read_fields-requires-clause-start g c = record { rest = []; went = c.requires.start; holds = holds_none c.args.plan.now.kind c.in_ok-window.window c.in_ok-window.ensures.items c.in_ok-window.ensures.bytes }

pub feed_held_window-requires-clause-hub : goal.feed_held_window-requires-clause-hub
feed_held_window-requires-clause-hub g c = c.in_ok-count.ensures.read.gave.went.hub

pub feed_held_window-requires-clause-room : goal.feed_held_window-requires-clause-room
feed_held_window-requires-clause-room g c =
    let went = c.in_ok-count.ensures.read.gave in
    (went.rest, went.holds, few_room _ went.rest c.read_fields.new.opened.updaters.items went.went.few went.went.small)

pub returns-clause-ok : goal.returns-clause-ok
returns-clause-ok g c =
    let k = g.C.Composable in let plan = c.args.plan.now in let hub = hub_of c.args.opened.now in
    let t = unreported k.keeps_of k.hint_of plan in let between = hub_of c.read_fields.new.opened in let last = hub_of c.feed_held_window.new.opened in
    all_by (units_by plan.column) plan.most c.in_ok-count.count (λ units. ItemsWent t units hub c.read_fields.new.window between) (λ units. Ingests t units hub tt last tt) (g.S.Source.left c.args.source.now) (g.S.Source.left c.read_fields.new.source)
    (λ units went. rest_fed t units hub between last tt tt went.rest went.went (c.in_ok-feed_held_window.ensures.fed went.rest went.holds)) c.in_ok-count.ensures.read

pub returns-in_err-count-clause-refused : goal.returns-in_err-count-clause-refused
returns-in_err-count-clause-refused g c =
    let k = g.C.Composable in let plan = c.args.plan.now in let hub = hub_of c.args.opened.now in
    let t = unreported k.keeps_of k.hint_of plan in let between = hub_of c.read_fields.new.opened in
    let left = g.S.Source.left c.args.source.now in let left' = g.S.Source.left c.read_fields.new.source in let f = c.in_err-count.field-0.0 in
    if_err_is c.from_residual-in_err-count.result f (EndsEarly t _ (units_by plan.column) left left' hub tt tt) c.from_residual-in_err-count.ensures.1
    (inl (ends_by _ (units_by plan.column) plan.most (λ units. ItemsWent t units hub c.read_fields.new.window between) (GoesSoFar t hub tt tt) (StopsAtUnit t hub tt tt) (StopsAtUnit t hub tt tt) left left' f
    (λ units went. (went.rest, between, went.went.goes)) (λ why units unit stops. stops) c.in_err-count.ensures.read))

pub returns-in_err-feed_held_window-clause-refused : goal.returns-in_err-feed_held_window-clause-refused
returns-in_err-feed_held_window-clause-refused g c =
    let k = g.C.Composable in let plan = c.args.plan.now in let hub = hub_of c.args.opened.now in
    let t = unreported k.keeps_of k.hint_of plan in let between = hub_of c.read_fields.new.opened in
    let left = g.S.Source.left c.args.source.now in let left' = g.S.Source.left c.read_fields.new.source in
    if_err_is c.from_residual-in_err-feed_held_window.result fault.OutOfMemory (EndsEarly t _ (units_by plan.column) left left' hub tt tt) c.from_residual-in_err-feed_held_window.ensures.1
    (inr (
      refl,
      (
        c.in_ok-count.count,
        all_by (units_by plan.column) plan.most c.in_ok-count.count (λ units. ItemsWent t units hub c.read_fields.new.window between) (GoesSoFar t hub tt tt) left left'
            (λ units went. (went.rest, between, went.went.goes)) c.in_ok-count.ensures.read,
      ),
    ))
