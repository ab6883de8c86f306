use Rattle.std.proofs.Common.{◌≤◌, ◌+◌, [], length, inl, sym, ◌∙◌, arith}
use Rattle.sk_model.specs.Limits.{most_kept}
use Rattle.sk_feed.specs.Hubs.{hub_of}
use Rattle.sk_read.specs.declared.fault.Fault.TheVariants as fault
use Rattle.sk_ingest.specs.Takers.{unreported}
use Rattle.sk_ingest.proofs.ItemizedLaws.{not_filled, so_far, unit_holds, unit_room, unit_waits_held, unit_fills_held}
use Rattle.sk_fill.proofs.Readings.{if_err_is}
use Rattle.sk_ingest.proofs.itemized.take_unit.Goals as goal

pub push-requires-clause-room : goal.push-requires-clause-room
push-requires-clause-room g c =
    let k = g.C.Composable in let behind = c.requires.behind in
    not_filled (unreported k.keeps_of k.hint_of c.args.plan.now) behind.1 behind.0 (hub_of c.args.opened.now) c.args.window.now behind.3 c.requires.plan.most

pub returns-then-not-is_full-clause-went : goal.returns-then-not-is_full-clause-went
returns-then-not-is_full-clause-went g c = λ a units count went.
    let k = g.C.Composable in let hub = hub_of c.args.opened.now in
    let small : length units + 1 ≤ most_kept = omega (arith, count, c.requires.room) in
    unit_waits_held (unreported k.keeps_of k.hint_of c.args.plan.now) units a hub c.args.window.now went c.requires.plan.most c.args.unit.now c.in-Some.item c.push.new.self c.in-Some.ensures.good c.in-Some.ensures.held
    c.push.ensures.items c.push.ensures.bytes c.push.ensures.most small (sym c.is_full.ensures ∙ c.if-not-is_full.true)

pub pass_held-requires-clause-hub : goal.pass_held-requires-clause-hub
pass_held-requires-clause-hub g c = c.requires.behind.3.went.hub

pub pass_held-requires-clause-room : goal.pass_held-requires-clause-room
pass_held-requires-clause-room g c =
    let k = g.C.Composable in let behind = c.requires.behind in let t = unreported k.keeps_of k.hint_of c.args.plan.now in let hub = hub_of c.args.opened.now in let w = c.args.window.now in let same = c.requires.plan.most in
    let units = behind.1 in let went = behind.3 in
    let small : length units + 1 ≤ most_kept = omega (arith, behind.2, c.requires.room) in (
      _,
      unit_holds t units behind.0 hub w went same c.args.unit.now c.in-Some.item c.push.new.self c.in-Some.ensures.good c.in-Some.ensures.held c.push.ensures.items c.push.ensures.bytes c.push.ensures.most small,
      unit_room t units behind.0 hub w went same c.args.unit.now c.in-Some.item c.push.new.self c.in-Some.ensures.good c.in-Some.ensures.held c.push.ensures.items c.push.ensures.bytes c.push.ensures.most small,
    )

pub returns-clause-went : goal.returns-clause-went
returns-clause-went g c = λ a units count went.
    let k = g.C.Composable in let hub = hub_of c.args.opened.now in
    let small : length units + 1 ≤ most_kept = omega (arith, count, c.requires.room) in
    unit_fills_held (unreported k.keeps_of k.hint_of c.args.plan.now) units a hub c.args.window.now went c.requires.plan.most c.args.unit.now c.in-Some.item c.push.new.self c.in-Some.ensures.good c.in-Some.ensures.held
    c.push.ensures.items c.push.ensures.bytes c.push.ensures.most small (hub_of c.pass_held.new.opened) c.pass_held.new.window (sym c.is_full.ensures ∙ c.if-not-is_full.false) c.requires.plan.least c.requires.plan.unreported
    c.in_ok-pass_held.ensures.fed c.in_ok-pass_held.ensures.cleared
