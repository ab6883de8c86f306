use Rattle.sk_fill.proofs.Items as lemmas
use Rattle.sk_fill.proofs.laws.items_of_good_lines.Goals as goal

pub returns : goal.returns
returns c = lemmas.good_items
