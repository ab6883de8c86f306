use Rattle.std.proofs.Common.{ap, ◌∙◌}
use Rattle.sk_theta.specs.Kept.{Sketch}
use Rattle.sk_window.proofs.Standing.{first_given}
use Rattle.sk_window.proofs.sketches.replace_oldest.Goals as goal

pub returns-clause-same_k : goal.returns-clause-same_k
returns-clause-same_k c = λ k all.
    ap (λ (s : Sketch). s.k) (first_given c.args.sketches.now.capacity c.args.sketches.now.items c.args.sketch c.in-Some.oldest c.requires.full c.requires.some c.in-Some.ensures.value)
    ∙ all 0 c.in-Some.oldest c.requires.some
