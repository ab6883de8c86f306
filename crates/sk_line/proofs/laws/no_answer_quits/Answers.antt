use Rattle.sk_line.proofs.Added as laws
use Rattle.sk_line.proofs.laws.no_answer_quits.Goals as goal

pub returns : goal.returns
returns c = laws.no_answer_quits
