use Rattle.std.proofs.Common.{◌≤◌, ℕ, sym, subst}
use Rattle.sk_model.proofs.Sketch.{count_within, theta_positive}
use Rattle.sk_panes.proofs.text.write_reply.Goals as goal

pub fraction-requires-clause-count : goal.fraction-requires-clause-count
fraction-requires-clause-count g c = subst (λ (n : ℕ). n ≤ c.args.k) (sym c.requires.reply.1.count_is) (count_within c.args.k c.requires.reply.0)

pub fraction-requires-clause-theta : goal.fraction-requires-clause-theta
fraction-requires-clause-theta g c = subst (λ (n : ℕ). 1 ≤ n) (sym c.requires.reply.1.theta_is) (theta_positive c.args.k c.requires.reply.0 c.requires.k.0)
