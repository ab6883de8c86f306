use Rattle.sk_model.proofs.Lines as laws
use Rattle.sk_model.proofs.laws.lines.items_append.Goals as goal

pub returns-clause-lines : goal.returns-clause-lines
returns-clause-lines c = laws.filled_append

pub returns-clause-items : goal.returns-clause-items
returns-clause-items c = laws.items_append
