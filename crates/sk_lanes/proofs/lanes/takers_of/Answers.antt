use Rattle.std.proofs.Common.{◌∷◌, [], ◌++◌, sym, ap, ◌∙◌, append_assoc}
use Rattle.std.proofs.lemmas.List.{map-append}
use Rattle.sk_lanes.proofs.lanes.takers_of.Goals as goal

pub lane-preserved : goal.lane-preserved
lane-preserved g c = record {
  moved = c.in_ok-push.ensures.items ∙ ap (λ l. l ++ c.in-Some.lane.taker ∷ []) c.lane.invariant.moved ∙ sym (map-append (λ x. x.taker) c.lane.yielded (c.in-Some.lane ∷ []));
  all = append_assoc c.lane.yielded (c.in-Some.lane ∷ []) c.next.new.self.rest.items ∙ ap (λ l. c.lane.yielded ++ l) (sym c.in-Some.ensures.steps.0) ∙ c.lane.invariant.all;
}
