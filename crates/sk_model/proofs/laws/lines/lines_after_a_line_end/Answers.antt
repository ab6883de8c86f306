use Rattle.sk_model.proofs.Lines as laws
use Rattle.sk_model.proofs.laws.lines.lines_after_a_line_end.Goals as goal

pub returns : goal.returns
returns c = laws.lines_after_a_line_end
