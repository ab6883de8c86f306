use Rattle.std.proofs.Common.{sym, ◌∙◌}
use Rattle.sk_model.proofs.Sketch.{k_smallest-nil}
use Rattle.sk_sorted.proofs.sorted_theta.SortedTheta.new.Goals as goal

pub returns-clause-stands : goal.returns-clause-stands
returns-clause-stands c = c.in_ok-with_capacity.ensures.items ∙ sym (k_smallest-nil c.args.k)
