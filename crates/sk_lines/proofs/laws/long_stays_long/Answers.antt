use Rattle.sk_lines.proofs.Steps as steps
use Rattle.sk_lines.proofs.laws.long_stays_long.Goals as goal

pub returns : goal.returns
returns c = steps.long_after_stays
