use Rattle.std.proofs.Common.{◌≡◌, ◌≤◌, ◌++◌, ℕ, sym, subst, ◌∙◌, arith}
use Rattle.sk_model.specs.Sketch.{theta_of}
use Rattle.sk_theta.specs.Kept.{StandsFor}
use Rattle.sk_window.specs.Intervals.{StandForEach}
use Rattle.sk_window.specs.Joins.{all_kept, below}
use Rattle.sk_window.proofs.Joined.{joined_below, joined_again}
use Rattle.sk_window.proofs.joins.join_each.Goals as goal

pub returns-then-theta-bound-clause-stands : goal.returns-then-theta-bound-clause-stands
returns-then-theta-bound-clause-stands c = λ lists items each stands.
    let ss = c.args.sketches.now.items in
    let some = below c.args.bound (all_kept ss) in
    let same : c.join_whole.new.into.k ≡ c.args.into.now.k = c.join_whole.ensures.k ∙ c.join_below.ensures.k in
    let first : StandForEach c.join_below.new.into.k ss lists = subst (λ (n : ℕ). StandForEach n ss lists) (sym c.join_below.ensures.k) each in
    let last : StandForEach c.join_whole.new.into.k ss lists = subst (λ (n : ℕ). StandForEach n ss lists) (sym same) each in
    c.join_whole.ensures.stands lists (items ++ some) first (c.join_below.ensures.stands items stands)
    ∙ joined_again c.join_whole.new.into.k c.args.bound ss lists items last

pub returns-else-theta-bound-clause-stands : goal.returns-else-theta-bound-clause-stands
returns-else-theta-bound-clause-stands c = λ lists items each stands.
    let ss = c.args.sketches.now.items in
    let into = c.join_below.new.into in
    let some = below c.args.bound (all_kept ss) in
    let after : StandsFor into (items ++ some) = c.join_below.ensures.stands items stands in
    let low : theta_of into.k (items ++ some) ≤ c.args.bound = omega (arith, c.theta.ensures.value (items ++ some) after, c.if-theta-bound.false) in
    let its : StandForEach into.k ss lists = subst (λ (n : ℕ). StandForEach n ss lists) (sym c.join_below.ensures.k) each in
    after ∙ joined_below into.k c.args.bound ss lists items c.join_below.ensures.items its low
