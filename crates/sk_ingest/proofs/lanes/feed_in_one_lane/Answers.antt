use Rattle.std.proofs.Common.{◌∷◌, [], ap, ◌∙◌, arith}
use Rattle.sk_ingest.proofs.SupplyLaws.{nothing_fed, told_otherwise}
use Rattle.sk_ingest.proofs.TakerLaws.{few_all, shares_of_one, none_left}
use Rattle.sk_ingest.proofs.lanes.feed_in_one_lane.Goals as goal

pub returns-in_err-hub-clause-goes : goal.returns-in_err-hub-clause-goes
returns-in_err-hub-clause-goes g c = nothing_fed _ c.args.kind c.args.stretch.now.most c.args.stretch.now _ c.args.reader.now (g.S.Source.left c.args.source.now) c.from_residual.result c.from_residual.ensures.1 c.requires.started.least

pub feed_in_lanes-more-requires-clause-few : goal.feed_in_lanes-more-requires-clause-few
feed_in_lanes-more-requires-clause-few g c κs within =
    let v = c.args.updaters.now in let first = c.args.stretch.now.first in
    let only = c.in_ok-hub.ensures ∙ ap (λ x. x ∷ []) c.replace.ensures.value in
    few_all (λ x. x.items) c.in_ok-hub.hub.items v only first c.requires.count c.requires.few

pub returns-in-Some-clause-goes : goal.returns-in-Some-clause-goes
returns-in-Some-clause-goes g c =
    let k = g.C.Composable in let v = c.args.updaters.now in let hub' = c.feed_in_lanes-more.new.takers.items in
    let only = c.in_ok-hub.ensures ∙ ap (λ x. x ∷ []) c.replace.ensures.value in
    told_otherwise _ _ c.args.kind c.args.stretch.now.most c.args.stretch.now c.feed_in_lanes-more.new.stretch c.args.reader.now c.feed_in_lanes-more.new.reader (g.S.Source.left c.args.source.now) (g.S.Source.left c.feed_in_lanes-more.new.source) c.feed_in_lanes-more.result
    (λ windows taken. shares_of_one (λ x. x.items) c.in_ok-hub.hub.items v only k.keeps_of k.hint_of c.args.kind windows hub' taken c.pop.new.self.items c.in-Some.all c.in-Some.ensures.items) c.feed_in_lanes-more.ensures.goes

pub returns-clause-goes : goal.returns-clause-goes
returns-clause-goes g c =
    let k = g.C.Composable in let v = c.args.updaters.now in let hub' = c.feed_in_lanes-more.new.takers.items in
    let only = c.in_ok-hub.ensures ∙ ap (λ x. x ∷ []) c.replace.ensures.value in
    told_otherwise _ _ c.args.kind c.args.stretch.now.most c.args.stretch.now c.feed_in_lanes-more.new.stretch c.args.reader.now c.feed_in_lanes-more.new.reader (g.S.Source.left c.args.source.now) (g.S.Source.left c.feed_in_lanes-more.new.source) c.feed_in_lanes-more.result
    (λ windows taken. none_left (λ x. x.items) c.in_ok-hub.hub.items v only k.keeps_of k.hint_of c.args.kind windows hub' taken (omega (arith, c.in-None.ensures.cases.0, c.feed_in_lanes-more.new.takers.ok))) c.feed_in_lanes-more.ensures.goes
