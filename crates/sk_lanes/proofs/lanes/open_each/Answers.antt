use Rattle.std.proofs.Common.{◌∷◌, [], ◌++◌, map, sym, ap, ◌∙◌, subst, append_assoc}
use Rattle.std.proofs.lemmas.List.{map-append}
use Rattle.sk_lanes.specs.Lanes.{AreOpen}
use Rattle.sk_lanes.proofs.LaneLaws.{rings_more, next_of_all}
use Rattle.sk_lanes.proofs.lanes.open_each.Goals as goal

pub open-requires-clause-few : goal.open-requires-clause-few
open-requires-clause-few g c =
    let k = g.T.TakesStretches in
    let all = ap (λ l. c.open.yielded ++ l) (sym c.in-Some.ensures.steps.0) ∙ c.open.invariant.all in
    next_of_all (λ t. k.keeps_at_most t c.args.first.now.first) c.args.takers.items c.open.yielded c.next.new.self.rest.items c.in-Some.taker all c.requires.few

pub open-preserved : goal.open-preserved
open-preserved g c =
    let k = g.T.TakesStretches in let first = c.args.first.now in let lanes = c.open.lanes.items in let outlets = c.open.outlets.items in
    let lane = c.in_ok-lane.lane in let outlet = c.in_ok-lane.outlet in let pushed = c.in_ok-push.ensures.items in let given = c.in_ok-push-2.ensures.items in
    let all = ap (λ l. c.open.yielded ++ l) (sym c.in-Some.ensures.steps.0) ∙ c.open.invariant.all in
    record {
      moved = ap (map (λ x. x.taker)) pushed ∙ map-append (λ x. x.taker) lanes (lane ∷ []) ∙ ap (λ t. map (λ x. x.taker) lanes ++ t ∷ []) c.in_ok-lane.ensures.taker ∙ ap (λ l. l ++ c.in-Some.taker ∷ []) c.open.invariant.moved;
      rings = subst (λ l. AreOpen k.keeps_at_most first l c.push-in-open.new.self.items) (sym pushed) (subst (λ l. AreOpen k.keeps_at_most first (lanes ++ lane ∷ []) l) (sym given) (rings_more k.keeps_at_most first lanes outlets lane outlet c.open.invariant.rings c.in_ok-lane.ensures.open));
      all = append_assoc c.open.yielded (c.in-Some.taker ∷ []) c.next.new.self.rest.items ∙ all;
    }
