use Rattle.std.proofs.Common.{◌≡◌, ℕ}
use Rattle.sk_read.specs.Scan.{IsEnd}
use Rattle.sk_read.proofs.DelimiterLaws.{both_masks}
use Rattle.sk_read.proofs.records.delimiters.delimiters_of_block.Goals as goal

pub returns : goal.returns
returns c = both_masks IsEnd (λ (x : ℕ). x ≡ 44) c.args.bytes.now c.args.at c.ends_of_block.result c.marks_of_block.result c.ends_of_block.ensures c.marks_of_block.ensures
