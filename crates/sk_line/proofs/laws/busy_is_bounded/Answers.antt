use Rattle.sk_line.proofs.Added as laws
use Rattle.sk_line.proofs.laws.busy_is_bounded.Goals as goal

pub returns : goal.returns
returns c = laws.busy_is_bounded
