use Rattle.sk_feed.proofs.Settling.{base_of_eager}
use Rattle.sk_feed.proofs.laws.an_eager_base_lacks_nothing.Goals as goal

pub returns : goal.returns
returns c = base_of_eager
