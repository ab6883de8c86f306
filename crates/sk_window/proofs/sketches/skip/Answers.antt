use Rattle.std.proofs.Common.{◌≡◌, ◌<◌, length, min, sym, ap, subst, ◌∙◌, arith}
use Rattle.sk_window.specs.Intervals.{StandForEach, with_skipped}
use Rattle.sk_window.proofs.Standing.{stand_count, skipped_more, skipped_all}
use Rattle.sk_window.proofs.sketches.skip.Goals as goal

pub step-preserved : goal.step-preserved
step-preserved c = (
  c.skip_one.ensures.count ∙ c.step.invariant.0,
  c.skip_one.ensures.capacity ∙ c.step.invariant.1,
  λ k same. c.skip_one.ensures.same_k k (c.step.invariant.2 k same),
  λ k lists each.
      let ss = c.args.sketches.now.items in
      let some : 0 < length lists = omega (arith, c.requires.some, stand_count k ss lists each) in
      subst (StandForEach k c.skip_one.new.sketches.items) (sym (skipped_more lists c.step.counter some))
      (c.skip_one.ensures.stand k (with_skipped lists c.step.counter) (c.step.invariant.3 k lists each)),
)

pub returns : goal.returns
returns c = record {
  count = c.step.invariant.0;
  capacity = c.step.invariant.1;
  same_k = c.step.invariant.2;
  stand = λ k lists each.
      let ss = c.args.sketches.now.items in
      let steps : c.step.counter ≡ min c.args.count (length lists) = omega (arith, stand_count k ss lists each) in
      subst (StandForEach k c.step.sketches.items) (ap (with_skipped lists) steps ∙ skipped_all lists c.args.count) (c.step.invariant.3 k lists each);
}
