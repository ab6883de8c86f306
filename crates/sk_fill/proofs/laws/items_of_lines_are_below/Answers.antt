use Rattle.sk_fill.proofs.Items as lemmas
use Rattle.sk_fill.proofs.laws.items_of_lines_are_below.Goals as goal

pub returns : goal.returns
returns c = lemmas.items_below
