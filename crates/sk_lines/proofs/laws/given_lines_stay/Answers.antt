use Rattle.sk_lines.proofs.Steps as steps
use Rattle.sk_lines.proofs.laws.given_lines_stay.Goals as goal

pub returns : goal.returns
returns c = steps.given_lines_stay
