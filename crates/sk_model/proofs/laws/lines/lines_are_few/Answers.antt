use Rattle.sk_model.proofs.Lines as lemmas
use Rattle.sk_model.proofs.laws.lines.lines_are_few.Goals as goal

pub returns : goal.returns
returns c = record { lines = lemmas.lines_are_few; items = lemmas.items_are_few }
