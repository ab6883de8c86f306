use Rattle.std.proofs.Common.{◌≡◌, ◌+◌, ◌-◌, ℕ, length, subst, arith}
use Rattle.std.proofs.lemmas.Nat.{ones_le_self}
use lib.Count.{count_leading_zeros, ones}
use Rattle.sk_lines.proofs.Passing.{HasPassed, none_passed, pass_block}
use Rattle.sk_lines.proofs.Steps as steps
use Rattle.sk_lines.proofs.runs.skip_blocks.Goals as goal

pub block-init : goal.block-init
block-init c = record {
  few = omega arith;
  passed = none_passed c.args.bytes.now c.args.from;
  text = c.requires.within;
  within = omega (arith, c.requires.within);
}

pub block-preserved-then-marks-ne0 : goal.block-preserved-then-marks-ne0
block-preserved-then-marks-ne0 c =
    let bytes = c.args.bytes.now in
    let old = c.block.passed in
    let marks : ℕ = c.lfs_of_block-marks.result in
    let block = pass_block bytes c.args.from old.scanned old.count old.at marks (omega (arith, c.lfs_of_block-marks.type_inv)) (omega arith) c.lfs_of_block-marks.ensures c.block.invariant.passed in
    let some = block.some c.if-marks-ne0.true in
    let end : block.end ≡ old.scanned + 64 - count_leading_zeros 64 marks = omega (arith, some.0) in
    let text = steps.lf_in_text bytes (block.end - 1) (length bytes) some.2 c.requires.zeros in
    record {
      few = omega (arith, c.if-found-most.false, c.block.invariant.few);
      passed = subst (λ (n : ℕ). HasPassed bytes c.args.from (old.scanned + 64) (old.count + ones marks) n) end block.passed;
      text = omega (arith, text, some.1, end);
      within = omega arith;
    }

pub block-preserved : goal.block-preserved
block-preserved c =
    let bytes = c.args.bytes.now in
    let old = c.block.passed in
    let marks : ℕ = c.lfs_of_block-marks.result in
    let block = pass_block bytes c.args.from old.scanned old.count old.at marks (omega (arith, c.lfs_of_block-marks.type_inv)) (omega arith) c.lfs_of_block-marks.ensures c.block.invariant.passed in
    let none : old.count + ones marks ≡ old.count = omega (arith, ones_le_self marks, c.if-marks-ne0.false) in
    record {
      few = c.block.invariant.few;
      passed = subst (λ (n : ℕ). HasPassed bytes c.args.from (old.scanned + 64) n old.at) none
          (subst (λ (n : ℕ). HasPassed bytes c.args.from (old.scanned + 64) (old.count + ones marks) n) (block.none c.if-marks-ne0.false) block.passed);
      text = c.block.invariant.text;
      within = omega arith;
    }
