use Rattle.sk_fill.proofs.Items as lemmas
use Rattle.sk_fill.proofs.laws.items_are_few.Goals as goal

pub returns : goal.returns
returns c = lemmas.few_items
