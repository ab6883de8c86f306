use Rattle.sk_hub.proofs.Taking as laws
use Rattle.sk_hub.proofs.laws.an_ask_has_what_was_taken_in.Goals as goal

pub returns : goal.returns
returns c = laws.exactly_taken
