use Rattle.std.proofs.Common.{◌≡◌, ℕ, bit_or}
use Rattle.sk_read.specs.Scan.{IsEnd}
use Rattle.sk_read.proofs.DelimiterLaws.{both_lanes}
use Rattle.sk_read.proofs.records.seek.wide_delimiters.Goals as goal

pub returns : goal.returns
returns c =
    let bytes = c.args.bytes.now in
    let at = c.args.at in
    both_lanes 16 IsEnd (λ (x : ℕ). x ≡ 44) bytes at (bit_or c.wide_marks.result c.wide_marks-2.result) c.wide_marks-3.result
    (both_lanes 16 (λ (x : ℕ). x ≡ 10) (λ (x : ℕ). x ≡ 13) bytes at c.wide_marks.result c.wide_marks-2.result c.wide_marks.ensures c.wide_marks-2.ensures) c.wide_marks-3.ensures
