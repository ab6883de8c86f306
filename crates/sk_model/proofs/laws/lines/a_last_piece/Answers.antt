use Rattle.sk_model.proofs.Lines as laws
use Rattle.sk_model.proofs.laws.lines.a_last_piece.Goals as goal

pub returns-clause-none : goal.returns-clause-none
returns-clause-none c = laws.lines_of_nothing

pub returns-clause-one : goal.returns-clause-one
returns-clause-one c = laws.a_last_piece
