use Rattle.std.proofs.Common.{◌≡◌, ℕ, ◌+◌, ◌-◌, ◌≤◌, List, ◌++◌, take, drop, ap, sym, subst, ◌∙◌, arith, append_assoc}
use Rattle.std.proofs.Math.Seq.{take-add}
use Rattle.sk_theta.specs.Kept.{StandsFor}
use Rattle.sk_sorted.proofs.sorted_theta.SortedTheta.merge.Goals as goal

pub merge-preserved : goal.merge-preserved
merge-preserved c =
    let batch = c.args.batch.now in let at = c.merge.at in let end = c.min-end.result in let s = c.merge_piece.new.self in
    let order : at ≤ end = omega (arith, c.min-end.ensures, c.merge-test.true) in
    let more : at + (end - at) ≡ end = omega (arith, order) in
    let split : take at batch ++ take (end - at) (drop at batch) ≡ take end batch = sym (take-add at (end - at) batch) ∙ ap (λ (n : ℕ). take n batch) more in record {
      within = omega (arith, c.min-end.ensures);
      numbers = c.merge_piece.ensures.numbers ∙ c.merge.invariant.numbers;
      stands = λ hashes stands. subst (StandsFor s) (append_assoc hashes (take at batch) (take (end - at) (drop at batch)) ∙ ap (λ (l : List ℕ). hashes ++ l) split) (c.merge_piece.ensures.stands (hashes ++ take at batch) (c.merge.invariant.stands hashes stands));
    }
