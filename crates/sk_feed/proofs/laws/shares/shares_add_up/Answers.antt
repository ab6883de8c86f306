use Rattle.sk_feed.proofs.Shares as lemmas
use Rattle.sk_feed.proofs.laws.shares.shares_add_up.Goals as goal

pub returns : goal.returns
returns c = lemmas.add_up
