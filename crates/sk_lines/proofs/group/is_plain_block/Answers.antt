use Rattle.std.proofs.Common.{eqb-true}
use Rattle.sk_lines.proofs.Even.{plain_block}
use Rattle.sk_lines.proofs.group.is_plain_block.Goals as goal

pub returns : goal.returns
returns c = λ is. plain_block c.args.bytes.now c.args.at c.requires (eqb-true _ 0 is)
