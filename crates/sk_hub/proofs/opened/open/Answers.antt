use Rattle.std.proofs.Common.{replicate, ◌≡◌, ap, ◌∙◌, subst, IfOk, rules}
use Rattle.sk_hub.specs.Starts.{AreNew}
use Rattle.sk_hub.proofs.opened.open.Goals as goal

pub returns-clause-updaters : goal.returns-clause-updaters
returns-clause-updaters g c = let k = g.C.Composable in let shape = c.args.shape.now in
    let items : c.in_ok-sizes.sizes.items ≡ replicate c.n.result c.b.result = c.in_ok-sizes.ensures.items_if_clones_equal (λ y is. search rules) in
    let sizes : c.as_slice.result.now ≡ replicate shape.n shape.b = c.as_slice.ensures.value ∙ items ∙ ap (λ n. replicate n c.b.result) c.n.ensures.value ∙ ap (λ b. replicate shape.n b) c.b.ensures.value in
    subst (λ l. IfOk c.open_sized.result (λ opened. AreNew k.hint_of l opened.heart opened.updaters.items)) sizes c.open_sized.ensures.updaters
