use Rattle.std.proofs.Common.{◌≡◌, replicate, subst, sym}
use Rattle.sk_gate.specs.Slots.{telling}
use Rattle.sk_gate.specs.Views.{admitted_sizes}
use Rattle.sk_hub.specs.Hearts.{IsHeart}
use Rattle.sk_hub.proofs.Opening.{no_sizes, is_heart, is_new_heart, is_new_token}
use Rattle.sk_hub.proofs.opened.start.Goals as goal

pub invariant_of-heart : goal.invariant_of-heart
invariant_of-heart g c = let k = g.C.Composable in let n = c.args.n in let m = c.in_ok-heart.field-0 in let parcels = c.in_ok-placeholders.field-0.items in
    let none : admitted_sizes 0 parcels ≡ replicate n 0 = no_sizes n parcels c.in_ok-placeholders.ensures.count in
    subst (λ l. IsHeart (telling k.tells k.told_name k.told_of) m.heart l c.in_ok-told.told.items n 0) (sym c.from_vec.ensures.items)
    (is_heart (telling k.tells k.told_name k.told_of) n (admitted_sizes 0 parcels) (k.numbers c.args.global) (k.name c.args.global) m.heart m.updaters.items m.token c.in_ok-told.told.items c.args.eager c.in_ok-heart.ensures none c.in_ok-told.ensures c.requires.most)

pub returns-clause-heart : goal.returns-clause-heart
returns-clause-heart g c = let k = g.C.Composable in let n = c.args.n in let m = c.in_ok-heart.field-0 in let parcels = c.in_ok-placeholders.field-0.items in
    let none : admitted_sizes 0 parcels ≡ replicate n 0 = no_sizes n parcels c.in_ok-placeholders.ensures.count in
    is_new_heart (telling k.tells k.told_name k.told_of) n (admitted_sizes 0 parcels) (k.numbers c.args.global) (k.name c.args.global) m.heart m.updaters.items m.token c.in_ok-told.told.items c.args.eager c.in_ok-heart.ensures none c.in_ok-told.ensures

pub returns-clause-token : goal.returns-clause-token
returns-clause-token g c = let k = g.C.Composable in let n = c.args.n in let m = c.in_ok-heart.field-0 in let parcels = c.in_ok-placeholders.field-0.items in
    let none : admitted_sizes 0 parcels ≡ replicate n 0 = no_sizes n parcels c.in_ok-placeholders.ensures.count in
    is_new_token (telling k.tells k.told_name k.told_of) n (admitted_sizes 0 parcels) (k.numbers c.args.global) (k.name c.args.global) m.heart m.updaters.items m.token c.in_ok-told.told.items c.args.eager c.in_ok-heart.ensures none c.in_ok-told.ensures
