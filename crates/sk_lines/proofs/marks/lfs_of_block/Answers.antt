use Rattle.std.proofs.Common.{arith}
use Rattle.sk_lines.proofs.Places as places
use Rattle.sk_lines.proofs.marks.lfs_of_block.Goals as goal

pub returns : goal.returns
returns c k = places.marks_of_block 64 10 c.args.bytes.now c.args.at k (omega arith) (omega arith) c.requires
