use Rattle.std.proofs.Common.{ℕ, ◌+◌, ap, arith, le_refl}
use Rattle.sk_lines.proofs.Places.{known_none, known_more, no_lf_known}
use Rattle.sk_lines.proofs.Ends.{no_ends, none_known, none_passed}
use Rattle.sk_lines.specs.Spans.{ends_of}
use Rattle.sk_lines.proofs.spans.find_ends.Goals as goal

pub block-init : goal.block-init
block-init c = record {
  few = omega arith;
  ends = (c.args.from, no_ends c.args.bytes.now c.args.from);
  holds = λ _. (c.args.from, no_ends c.args.bytes.now c.args.from, known_none c.args.bytes.now c.args.from c.args.from (le_refl c.args.from) (λ i from before. absurd (omega arith)));
}

pub block-preserved-then-marks-ne0 : goal.block-preserved-then-marks-ne0
block-preserved-then-marks-ne0 c =
    let h = c.block.invariant.holds (omega (arith, c.if-count.true)) in
    let all = c.put_ends-count.ensures.holds c.args.bytes.now c.args.from (h.0, h.1, known_more c.args.bytes.now h.0 c.block.scanned c.lfs_of_block-marks.result h.2 c.lfs_of_block-marks.ensures) in
    record {
      few = c.put_ends-count.ensures.few;
      ends = all.0;
      holds = all.1;
    }

pub block-preserved : goal.block-preserved
block-preserved c =
    let h = c.block.invariant.holds (omega (arith, c.if-count.true)) in
    let known = known_more c.args.bytes.now h.0 c.block.scanned c.lfs_of_block-marks.result h.2 c.lfs_of_block-marks.ensures in
    record {
      few = c.block.invariant.few;
      ends = c.block.invariant.ends;
      holds = λ _. none_known c.args.bytes.now c.args.from (c.block.scanned + 64) c.lfs_of_block-marks.result (ends_of c.block.count c.block.spans) c.if-marks-ne0.false (h.0, h.1, known);
    }

pub returns-after-block-clause-none : goal.returns-after-block-clause-none
returns-after-block-clause-none c = λ none i from below.
    let h = c.block.invariant.holds (omega (arith, none)) in
    let here = none_passed c.args.bytes.now c.args.from h.0 (ends_of c.block.count c.block.spans) (ap (λ (n : ℕ). ends_of n c.block.spans) none) h.1 in
    no_lf_known c.args.bytes.now h.0 c.block.scanned i h.2 (omega (arith, here, from)) (omega (arith, below, c.block-test.false))
