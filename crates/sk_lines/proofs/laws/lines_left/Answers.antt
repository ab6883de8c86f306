use Rattle.sk_lines.proofs.Steps as steps
use Rattle.sk_lines.proofs.laws.lines_left.Goals as goal

pub returns : goal.returns
returns c = steps.lines_at_end
