use Rattle.std.proofs.Common.{◌≡◌, ℕ}
use Rattle.sk_read.proofs.DelimiterLaws.{both_masks}
use Rattle.sk_read.proofs.records.delimiters.ends_of_block.Goals as goal

pub returns : goal.returns
returns c = both_masks (λ (x : ℕ). x ≡ 10) (λ (x : ℕ). x ≡ 13) c.args.bytes.now c.args.at c.marks_of_block.result c.marks_of_block-2.result c.marks_of_block.ensures c.marks_of_block-2.ensures
