use Rattle.sk_hub.proofs.Calls as lemmas
use Rattle.sk_feed.proofs.laws.kept_begins_later.Goals as goal

pub returns : goal.returns
returns c = lemmas.kept_begins
