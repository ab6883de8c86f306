use Rattle.std.proofs.Common.{ℕ, List, [], ◌∷◌, ap, subst, sym}
use Rattle.sk_count.specs.Opened.{AreSizes}
use Rattle.sk_count.specs.Steps.{hint_of}
use Rattle.sk_report.proofs.Results.{if_ok_all}
use Rattle.sk_count.proofs.OpeningLaws.{is_opened, are_fresh}
use Rattle.sk_count.proofs.counting.open_hub.Goals as goal

pub returns-clause-opened : goal.returns-clause-opened
returns-clause-opened c =
    let are : AreSizes c.args.plan.now c.as_slice.result.now = subst (λ (l : List ℕ). AreSizes c.args.plan.now l) (sym c.as_slice.ensures.value) c.in_ok-sizes.ensures.sizes in
    if_ok_all c.open_sized.result _ _ _ _ _ c.open_sized.ensures.heart c.open_sized.ensures.count c.open_sized.ensures.updaters c.open_sized.ensures.token
    (λ opened heart count updaters token. is_opened hint_of c.args.plan.now c.as_slice.result.now _ _ _ _ opened.heart opened.updaters.items opened.token (ap (λ s. s.n) c.in-Ok.ensures.ok) (ap (λ s. s.eager) c.in-Ok.ensures.ok) (ap (λ k. k ∷ []) c.in_ok-global.ensures.numbers) are heart count updaters token)

pub returns-clause-fresh : goal.returns-clause-fresh
returns-clause-fresh c =
    if_ok_all c.open_sized.result _ _ _ _ _ c.open_sized.ensures.heart c.open_sized.ensures.count c.open_sized.ensures.updaters c.open_sized.ensures.token
    (λ opened heart count updaters token. are_fresh hint_of c.as_slice.result.now opened.heart opened.updaters.items updaters)
