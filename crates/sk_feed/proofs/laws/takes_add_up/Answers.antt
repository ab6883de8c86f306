use Rattle.sk_hub.proofs.Calls as lemmas
use Rattle.sk_feed.proofs.laws.takes_add_up.Goals as goal

pub returns : goal.returns
returns c = lemmas.takes_trans
