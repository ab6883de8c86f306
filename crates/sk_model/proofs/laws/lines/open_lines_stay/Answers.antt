use Rattle.sk_model.proofs.Lines as laws
use Rattle.sk_model.proofs.laws.lines.open_lines_stay.Goals as goal

pub returns : goal.returns
returns c = laws.open_lines_stay
