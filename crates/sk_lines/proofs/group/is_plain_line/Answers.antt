use Rattle.std.proofs.Common.{arith}
use Rattle.sk_lines.proofs.Even.{plain_line_of}
use Rattle.sk_lines.proofs.group.is_plain_line.Goals as goal

pub returns-clause-plain : goal.returns-clause-plain
returns-clause-plain c = λ is. plain_line_of c.args.bytes.now c.args.floors c.args.at c.args.len (omega arith) c.requires.floors c.if-bytes-end-ne-LF.false c.if-below-ne0.false (c.are_plain.ensures is)
