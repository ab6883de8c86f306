use Rattle.std.proofs.Common.{◌≡◌, ◌<◌, ℕ, max, rules, fold, subst, sym, ◌∙◌}
use Rattle.sk_model.specs.Width.{item_end}
use Rattle.uses.specs.Greatest.{greatest_folds, fold_fits}
use Rattle.uses.proofs.greatest.greatest_from.Goals as goal

pub returns-clause-greatest : goal.returns-clause-greatest
returns-clause-greatest c =
    let value : c.fold.result ≡ fold (λ most x. max most x) c.args.first c.args.items.now = search rules in
    value ∙ greatest_folds c.args.first c.args.items.now

pub returns-clause-limit : goal.returns-clause-limit
returns-clause-limit c =
    let value : c.fold.result ≡ fold (λ most x. max most x) c.args.first c.args.items.now = search rules in
    subst (λ (n : ℕ). n < item_end) (sym value) (fold_fits c.args.first c.args.items.now c.requires.first c.requires.items)
