use Rattle.std.proofs.Common.{◌≡◌, ◌++◌, ◌∷◌, [], length, map, sym, ap, subst, ◌∙◌, append_assoc}
use Rattle.std.proofs.lemmas.List.{map-append, length-map}
use Rattle.sk_tenant.specs.Openings.{AreUnused, AreDesksOf}
use Rattle.sk_tenant.proofs.Dealt.{next_list, new_desk, same_desk, one_desk_more}
use Rattle.sk_tenant.proofs.opening.desks_of.Goals as goal

pub invariant_of-desk : goal.invariant_of-desk
invariant_of-desk c =
    let i = c.room.invariant in
    let all = ap (λ l. c.room.yielded ++ l) (sym c.in-Some.ensures.steps.0) ∙ i.all in
    let number : c.len-number.result ≡ length c.room.yielded = c.len-number.ensures ∙ c.room.desks.ok.0 ∙ i.desks.count ∙ length-map c.room.yielded (λ room. room.items) in
    new_desk c.args.names.now c.in_ok-share.field-0 c.args.quota (length c.room.yielded) c.len-number.result c.into_updaters.result.items c.in_ok-share.ensures number
    c.requires.few_names c.requires.different c.requires.quota_some c.requires.quota_most
    (subst (AreUnused (length c.room.yielded) (length c.args.names.now)) (sym c.into_updaters.ensures)
    (next_list (λ room. room.items) (length c.args.names.now) c.args.rooms.items c.room.yielded c.next.new.self.rest.items c.in-Some.room all c.requires.unused))

pub room-preserved : goal.room-preserved
room-preserved c =
    let i = c.room.invariant in let us = c.in-Some.room.items in
    let all = ap (λ l. c.room.yielded ++ l) (sym c.in-Some.ensures.steps.0) ∙ i.all in record {
      all = append_assoc c.room.yielded (c.in-Some.room ∷ []) c.next.new.self.rest.items ∙ all;
      desks = subst (λ lists. AreDesksOf c.args.names.now c.args.quota lists c.push.new.self.items) (sym (map-append (λ room. room.items) c.room.yielded (c.in-Some.room ∷ [])))
          (subst (AreDesksOf c.args.names.now c.args.quota (map (λ room. room.items) c.room.yielded ++ us ∷ [])) (sym c.in_ok-push.ensures.items)
          (one_desk_more c.args.names.now c.args.quota (map (λ room. room.items) c.room.yielded) c.room.desks.items us _ i.desks
          (same_desk c.args.names.now c.in_ok-share.field-0 c.args.quota c.len-number.result (length c.room.desks.items) c.into_updaters.result.items us c.in_ok-share.ensures
          (c.len-number.ensures ∙ c.room.desks.ok.0) c.into_updaters.ensures)));
    }
