use Rattle.std.proofs.Common.{arith}
use Rattle.sk_lines.proofs.Even as even
use Rattle.sk_lines.proofs.group.floors_of.Goals as goal

pub returns : goal.returns
returns c = even.floors c.args.len c.saturating_sub.result (omega (arith, c.saturating_sub.ensures))
