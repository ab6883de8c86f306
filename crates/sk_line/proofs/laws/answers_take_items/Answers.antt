use Rattle.sk_line.proofs.Added as laws
use Rattle.sk_line.proofs.laws.answers_take_items.Goals as goal

pub returns : goal.returns
returns c = laws.answers_take
