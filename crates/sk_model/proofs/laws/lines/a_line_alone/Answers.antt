use Rattle.sk_model.proofs.Lines as laws
use Rattle.sk_model.proofs.laws.lines.a_line_alone.Goals as goal

pub returns : goal.returns
returns c = laws.a_line_alone
