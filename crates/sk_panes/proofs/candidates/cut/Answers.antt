use Rattle.std.proofs.Common.{ap, ◌∙◌}
use Rattle.std.proofs.lemmas.List.Filters.{dedup_is}
use Rattle.sk_theta.specs.Kept.{theta_kept}
use Rattle.sk_panes.proofs.Smallest.{cut_is}
use Rattle.sk_panes.proofs.candidates.cut.Goals as goal

pub returns-clause-smallest : goal.returns-clause-smallest
returns-clause-smallest c =
    c.truncate.ensures.items
    ∙ cut_is c.args.k c.args.items.now.items c.sort_unstable.new.self.items c.dedup.new.self.items c.sort_unstable.ensures.permutation c.sort_unstable.ensures.sorted (dedup_is _ _ _ c.dedup.ensures.filtered)

pub returns-clause-theta : goal.returns-clause-theta
returns-clause-theta c =
    c.theta.ensures
    ∙ ap (theta_kept c.args.k) (c.deref.ensures.value
    ∙ c.truncate.ensures.items
    ∙ cut_is c.args.k c.args.items.now.items c.sort_unstable.new.self.items c.dedup.new.self.items c.sort_unstable.ensures.permutation c.sort_unstable.ensures.sorted (dedup_is _ _ _ c.dedup.ensures.filtered))
