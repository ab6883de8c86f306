use Rattle.std.proofs.Common.{refl, arith}
use Rattle.sk_fill.proofs.Filled.{read_few}
use Rattle.sk_feed.proofs.HubLaws.{may_wait}
use Rattle.sk_feed.proofs.Rooms.{room_for}
use Rattle.sk_ingest.proofs.SupplyLaws.{nothing_fed, next_read, told_otherwise}
use Rattle.sk_ingest.proofs.TakerLaws.{few_each, shares_of_all}
use Rattle.sk_ingest.proofs.stretches.feed_on.Goals as goal

pub feed_stretch-requires-clause-room : goal.feed_stretch-requires-clause-room
feed_stretch-requires-clause-room g c =
    let start = c.requires.started in let s = c.args.stretch.now in
    room_for s.windows s.first c.args.opened.now.updaters.items c.requires.few
    (omega (arith, start.count, read_few c.args.reader.now (g.S.Source.left c.args.source.now) start.given start.taken start.read))

pub returns-in_err-feed_stretch-clause-goes : goal.returns-in_err-feed_stretch-clause-goes
returns-in_err-feed_stretch-clause-goes g c =
    nothing_fed _ c.args.plan.now.kind c.args.stretch.now.most c.args.stretch.now _ c.args.reader.now (g.S.Source.left c.args.source.now) c.from_residual.result c.from_residual.ensures.1 c.requires.started.least

pub returns-then-is_short-clause-goes : goal.returns-then-is_short-clause-goes
returns-then-is_short-clause-goes g c =
    next_read _ c.args.plan.now.kind c.args.stretch.now.most c.args.stretch.now c.fill_stretch.new.stretch c.args.reader.now c.fill_stretch.new.reader (g.S.Source.left c.args.source.now) (g.S.Source.left c.fill_stretch.new.source) c.fill_stretch.result
    c.fill_stretch.ensures.reads c.in_ok-feed_stretch.ensures.fed c.fill_stretch.ensures.first

pub returns-then-take_turns-clause-goes : goal.returns-then-take_turns-clause-goes
returns-then-take_turns-clause-goes g c =
    told_otherwise _ _ c.args.plan.now.kind c.args.stretch.now.most c.args.stretch.now c.feed_in_one_lane.new.stretch c.args.reader.now c.feed_in_one_lane.new.reader (g.S.Source.left c.args.source.now) (g.S.Source.left c.feed_in_one_lane.new.source) c.feed_in_one_lane.result
    (λ windows taken. record { heart = may_wait c.args.plan.now.propagator c.args.opened.now.heart; updaters = taken; token = refl }) c.feed_in_one_lane.ensures.goes

pub feed_in_lanes-requires-clause-few : goal.feed_in_lanes-requires-clause-few
feed_in_lanes-requires-clause-few g c κs within = few_each c.args.stretch.now.first c.args.opened.now.updaters.items c.requires.few

pub returns-clause-goes : goal.returns-clause-goes
returns-clause-goes g c =
    let k = g.C.Composable in
    told_otherwise _ _ c.args.plan.now.kind c.args.stretch.now.most c.args.stretch.now c.feed_in_lanes.new.stretch c.args.reader.now c.feed_in_lanes.new.reader (g.S.Source.left c.args.source.now) (g.S.Source.left c.feed_in_lanes.new.source) c.feed_in_lanes.result
    (λ windows taken. record { heart = may_wait c.args.plan.now.propagator c.args.opened.now.heart; updaters = shares_of_all k.keeps_of k.hint_of c.args.plan.now.kind windows c.args.opened.now.updaters.items c.feed_in_lanes.new.takers.items taken; token = refl })
    c.feed_in_lanes.ensures.goes
