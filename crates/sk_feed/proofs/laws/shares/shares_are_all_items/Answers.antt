use Rattle.sk_feed.proofs.Shares as lemmas
use Rattle.sk_feed.proofs.laws.shares.shares_are_all_items.Goals as goal

pub returns : goal.returns
returns c = lemmas.all_items
