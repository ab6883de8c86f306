use Rattle.sk_fill.proofs.Joined as lemmas
use Rattle.sk_fill.proofs.laws.blocks_are_the_lines.Goals as goal

pub returns-clause-lines : goal.returns-clause-lines
returns-clause-lines c = lemmas.blocks_joined

pub returns-clause-items : goal.returns-clause-items
returns-clause-items c = lemmas.items_joined
