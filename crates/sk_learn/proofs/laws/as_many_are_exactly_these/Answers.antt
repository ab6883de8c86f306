use Rattle.sk_learn.proofs.Lists.{at_least, exactly}
use Rattle.sk_learn.proofs.laws.as_many_are_exactly_these.Goals as goal

pub returns : goal.returns
returns c = record { least = at_least; exactly = exactly }
