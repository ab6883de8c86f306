use Rattle.sk_feed.proofs.Shares as lemmas
use Rattle.sk_feed.proofs.laws.shares.no_shares.Goals as goal

pub returns : goal.returns
returns c = lemmas.no_shares
