use Rattle.sk_line.proofs.Added as laws
use Rattle.sk_line.proofs.laws.a_sync_is_helped.Goals as goal

pub returns : goal.returns
returns c = laws.syncs_are_helped
