use Rattle.std.proofs.Common.{◌∷◌, [], ◌++◌, ◌<◌, length, sym, ap, ◌∙◌, subst, arith}
use Rattle.rtrb.specs.Ring.{sent}
use Rattle.sk_feed.specs.Deliveries.{IsNext}
use Rattle.sk_feed.proofs.Done.{done_at, done_next}
use Rattle.sk_lanes.proofs.RingLaws.{Gave, gave_so_far, on_err}
use Rattle.sk_lanes.proofs.supply.give_each.Goals as goal

pub push_waiting-requires : goal.push_waiting-requires
push_waiting-requires g c =
    let os = c.args.outlets.now.items in let o = c.index_mut-outlet.result.now in let i = c.outlet.i in
    let within : i < length os = omega (arith, c.outlet-test.true, c.len-i-end.ensures) in
    let was = done_at (Gave (c.args.delivery.now ∷ [])) os c.outlet.outlets.items i o c.outlet.invariant within c.index_mut-outlet.ensures.value o in
    subst (λ x. IsNext (sent o) x) (sym c.in_ok-share.ensures) (subst (λ x. IsNext (sent x) c.args.delivery.now) (sym was) (c.requires i o within))

pub outlet-preserved : goal.outlet-preserved
outlet-preserved g c =
    let os = c.args.outlets.now.items in let o = c.index_mut-outlet.result.now in let i = c.outlet.i in let d = c.args.delivery.now in
    let within : i < length os = omega (arith, c.outlet-test.true, c.len-i-end.ensures) in
    done_next (Gave (d ∷ [])) os c.outlet.outlets.items i o c.push_waiting.new.outlet c.outlet.invariant within c.index_mut-outlet.ensures.value
    (c.push_waiting.ensures.ring, c.push_waiting.ensures.sent ∙ ap (λ x. sent o ++ x ∷ []) c.in_ok-share.ensures)

pub returns-in_err-share-clause-refused : goal.returns-in_err-share-clause-refused
returns-in_err-share-clause-refused g c =
    on_err c.from_residual.result (gave_so_far c.args.outlets.now.items c.outlet.outlets.items (c.args.delivery.now ∷ []) c.outlet.i c.outlet.invariant)
