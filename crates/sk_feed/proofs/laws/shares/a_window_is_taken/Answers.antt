use Rattle.sk_feed.proofs.Shares as lemmas
use Rattle.sk_feed.proofs.laws.shares.a_window_is_taken.Goals as goal

pub returns : goal.returns
returns c = lemmas.one_window
