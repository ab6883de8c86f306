use Rattle.sk_hub.proofs.Taking as laws
use Rattle.sk_hub.proofs.laws.drained_is_taken_in.Goals as goal

pub returns : goal.returns
returns c = laws.taken_when_drained
