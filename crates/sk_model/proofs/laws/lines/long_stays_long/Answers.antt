use Rattle.sk_model.proofs.Lines as laws
use Rattle.sk_model.proofs.laws.lines.long_stays_long.Goals as goal

pub returns : goal.returns
returns c = laws.long_stays_long
