use Rattle.std.proofs.Common.{◌≡◌, ◌<◌, ◌^◌, arith, refl, subst}
use Rattle.sk_report.proofs.Arming.{none_gone, one_gone_if, there_inside, all_gone}
use Rattle.sk_report.proofs.alarms.let_go.Goals as goal

pub place-init : goal.place-init
place-init g c = none_gone _ _

pub let_go_at-requires : goal.let_go_at-requires
let_go_at-requires g c = there_inside _ _ _ _ c.mask-live.result _ c.mask-live.ensures refl c.place.invariant

pub place-preserved : goal.place-preserved
place-preserved g c = one_gone_if _ _ _ _ _ c.mask-live.result _ (omega arith) c.mask-live.ensures refl c.place.invariant c.let_go_at.ensures.there c.let_go_at.ensures.none

pub returns : goal.returns
returns g c =
    let last : 64 ≡ c.place.place = omega arith in
    all_gone _ _ _ _ c.mask-live.result c.mask-live.ensures (subst (λ n. c.mask-live.result < 2 ^ n) last c.mask-live.type_inv) c.place.invariant
