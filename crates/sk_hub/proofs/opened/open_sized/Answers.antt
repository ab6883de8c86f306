use Rattle.std.proofs.Common.{subst}
use Rattle.sk_hub.specs.Starts.{IsNewHeart}
use Rattle.sk_hub.proofs.Opening.{are_new_more, new_heart_more}
use Rattle.sk_hub.proofs.opened.open_sized.Goals as goal

pub returns-clause-updaters : goal.returns-clause-updaters
returns-clause-updaters g c = let k = g.C.Composable in let sizes = c.args.sizes.now in
    are_new_more k.hint_of sizes c.in_ok-heart.heart c.admit_each.new.heart c.in_ok-updaters.updaters.items _ c.in_ok-updaters.ensures.heart c.in_ok-updaters.ensures.updaters

pub returns-clause-heart : goal.returns-clause-heart
returns-clause-heart g c = let k = g.C.Composable in let shape = c.args.shape.now in
    subst (λ n. IsNewHeart n (k.numbers c.args.global) (k.name c.args.global) shape.eager c.admit_each.new.heart) c.n.ensures.value
    (new_heart_more c.n.result (k.numbers c.args.global) (k.name c.args.global) shape.eager c.in_ok-heart.heart c.admit_each.new.heart _ c.in_ok-updaters.ensures.heart (subst (λ e. IsNewHeart c.n.result (k.numbers c.args.global) (k.name c.args.global) e c.in_ok-heart.heart) c.eager.ensures c.in_ok-heart.ensures.heart))
