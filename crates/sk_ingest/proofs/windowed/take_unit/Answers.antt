use Rattle.std.proofs.Common.{◌≤◌, ◌+◌, ◌++◌, ◌∷◌, [], length, sym, subst, arith}
use Rattle.sk_model.specs.Limits.{most_kept}
use Rattle.sk_read.specs.Items.{IsGood}
use Rattle.sk_feed.specs.Hubs.{hub_of, FeedsWindow}
use Rattle.sk_ingest.specs.Ingests.{terms_of, IsReported}
use Rattle.sk_ingest.specs.Takers.{WindowsWent, StopsPassing}
use Rattle.sk_ingest.proofs.Ingestion.{not_full, full_is, unit_waits, unit_goes, pass_stops}
use Rattle.sk_fill.proofs.Readings.{if_err_then, ok_two}
use Rattle.sk_ingest.proofs.windowed.take_unit.Goals as goal

pub push-requires-clause-room : goal.push-requires-clause-room
push-requires-clause-room g c =
    let went = c.requires.behind.4 in
    not_full c.args.plan.now.window c.args.window.now.most c.requires.behind.2 went.goes.windows c.args.window.now.lines c.requires.setup.most went.goes.cut

pub returns-then-not-is_full-clause-went : goal.returns-then-not-is_full-clause-went
returns-then-not-is_full-clause-went g c = λ a r units count went.
    let k = g.C.Composable in let p = g.P.Report in let plan = c.args.plan.now in let unit = c.args.unit.now in let lines = c.args.window.now.lines in
    let t = terms_of k.keeps_of k.hint_of p.reports p.breaks plan in let hub = hub_of c.args.opened.now in
    let good : IsGood plan.kind unit = c.is_good.ensures.good c.if-not-is_good.false in
    let still = full_is plan.window c.args.window.now.most c.push.new.self.most lines c.push.new.self.lines unit c.is_full.result _ c.push.ensures.most c.requires.setup.most c.in_ok-push.ensures.lines c.is_full.ensures c.if-not-is_full.true in
    let small : length units + 1 ≤ most_kept = omega (arith, count, c.requires.room) in
    subst (λ l. WindowsWent t (units ++ unit ∷ []) a r l hub c.args.report.now) (sym c.in_ok-push.ensures.lines) (unit_waits t units unit a hub r c.args.report.now lines went small good still)

pub returns-clause-went : goal.returns-clause-went
returns-clause-went g c =
    let k = g.C.Composable in let p = g.P.Report in let plan = c.args.plan.now in let unit = c.args.unit.now in let lines = c.args.window.now.lines in
    let t = terms_of k.keeps_of k.hint_of p.reports p.breaks plan in let hub = hub_of c.args.opened.now in let s = c.args.report.now in
    let y = hub_of c.pass_in_turn.new.opened in let q = c.pass_in_turn.new.report in
    let good : IsGood plan.kind unit = c.is_good.ensures.good c.if-not-is_good.false in
    let full = full_is plan.window c.args.window.now.most c.push.new.self.most lines c.push.new.self.lines unit c.is_full.result _ c.push.ensures.most c.requires.setup.most c.in_ok-push.ensures.lines c.is_full.ensures c.if-not-is_full.false in
    ok_two c.pass_in_turn.result c.pass_in_turn.ensures.passes.passed c.pass_in_turn.ensures.cleared
    (λ passed cleared. λ a r units count went.
    let small : length units + 1 ≤ most_kept = omega (arith, count, c.requires.room) in
    let fed = subst (λ l. FeedsWindow plan.propagator k.keeps_of k.hint_of plan.kind l hub passed.0) c.in_ok-push.ensures.lines passed.1 in
    let told = subst (λ n. IsReported t n passed.0 s y q) (sym count) passed.2 in
    subst (λ l. WindowsWent t (units ++ unit ∷ []) a r l y q) (sym cleared) (unit_goes t units unit a hub passed.0 y r s q lines went small good c.requires.setup.least full fed told))

pub returns-clause-stopped : goal.returns-clause-stopped
returns-clause-stopped g c =
    let k = g.C.Composable in let p = g.P.Report in let plan = c.args.plan.now in let unit = c.args.unit.now in let lines = c.args.window.now.lines in
    let t = terms_of k.keeps_of k.hint_of p.reports p.breaks plan in let hub = hub_of c.args.opened.now in let s = c.args.report.now in let q = c.pass_in_turn.new.report in
    let good : IsGood plan.kind unit = c.is_good.ensures.good c.if-not-is_good.false in
    let full = full_is plan.window c.args.window.now.most c.push.new.self.most lines c.push.new.self.lines unit c.is_full.result _ c.push.ensures.most c.requires.setup.most c.in_ok-push.ensures.lines c.is_full.ensures c.if-not-is_full.false in
    if_err_then c.pass_in_turn.result (StopsPassing t c.push.new.self.lines c.args.number hub s q) _ c.pass_in_turn.ensures.passes.stopped
    (λ why stops. λ a r units count went.
    pass_stops t units unit a hub r s q lines why went good c.requires.setup.least full
    (subst (λ l. StopsPassing t l (length units + 1) hub s q why) c.in_ok-push.ensures.lines (subst (λ n. StopsPassing t c.push.new.self.lines n hub s q why) (sym count) stops)))
