use Rattle.sk_model.proofs.Lines as laws
use Rattle.sk_model.proofs.laws.lines.item_of_a_line.Goals as goal

pub returns-clause-line : goal.returns-clause-line
returns-clause-line c = laws.filled_of_one

pub returns-clause-item : goal.returns-clause-item
returns-clause-item c = laws.item_of_one

pub returns-clause-no_line : goal.returns-clause-no_line
returns-clause-no_line c = laws.filled_of_empty

pub returns-clause-no_item : goal.returns-clause-no_item
returns-clause-no_item c = laws.item_of_empty
