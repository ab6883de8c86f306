use Rattle.std.proofs.Common.{◌∷◌, [], All, refl, sym, ap, subst}
use Rattle.rtrb.specs.Ring.{sent}
use Rattle.sk_feed.specs.Deliveries.{IsNext}
use Rattle.sk_lanes.specs.Rings.{AllEnd, GaveEach, GaveSome}
use Rattle.sk_lanes.proofs.RingLaws.{all_next, given_ends, some_of_all, some_of_none, on_err}
use Rattle.sk_lanes.proofs.supply.Supply.give.Goals as goal

pub give_each-requires : goal.give_each-requires
give_each-requires g c =
    let os = c.self.inside.outlets.items in let s = c.args.stretch in
    let ends = subst (λ l. AllEnd l s.first) (sym (ap (λ z. z.outlets) c.self.view_is)) c.requires.next in
    subst (λ z. All (λ o. IsNext (sent o) z) os) (sym c.in_ok-delivery.ensures) (all_next os s.first s ends refl c.requires.few)

pub returns-clause-ends : goal.returns-clause-ends
returns-clause-ends g c =
    let os = c.self.inside.outlets.items in let os' = c.give_each.new.outlets.items in let s = c.args.stretch in
    let ends = subst (λ l. AllEnd l s.first) (sym (ap (λ z. z.outlets) c.self.view_is)) c.requires.next in
    let gave = subst (λ z. GaveEach os os' (z ∷ [])) c.in_ok-delivery.ensures c.in_ok-give_each.ensures.gave in
    given_ends c.keep.result os os' s ends gave

pub returns-in_err-delivery-clause-refused : goal.returns-in_err-delivery-clause-refused
returns-in_err-delivery-clause-refused g c = let same = ap (λ z. z.outlets) c.self.view_is in on_err c.from_residual.result (some_of_none _ _ (c.args.stretch ∷ []) cc)

pub returns-in_err-give_each-clause-refused : goal.returns-in_err-give_each-clause-refused
returns-in_err-give_each-clause-refused g c =
    let os = c.self.inside.outlets.items in let os' = c.give_each.new.outlets.items in let s = c.args.stretch in
    let gave = subst (λ z. GaveSome os os' (z ∷ [])) c.in_ok-delivery.ensures c.in_err-give_each.ensures.refused in
    on_err c.from_residual-in_err-give_each.result (subst (λ l. GaveSome l os' (s ∷ [])) (ap (λ z. z.outlets) c.self.view_is) gave)

pub returns-clause-refused : goal.returns-clause-refused
returns-clause-refused g c =
    let os = c.self.inside.outlets.items in let os' = c.give_each.new.outlets.items in let s = c.args.stretch in
    let gave = subst (λ z. GaveEach os os' (z ∷ [])) c.in_ok-delivery.ensures c.in_ok-give_each.ensures.gave in
    on_err c.keep.result (some_of_all c.args.self.now.outlets os' (s ∷ []) (subst (λ l. GaveEach l os' (s ∷ [])) (ap (λ z. z.outlets) c.self.view_is) gave))
