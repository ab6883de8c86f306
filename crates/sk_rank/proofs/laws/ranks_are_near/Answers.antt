use Rattle.sk_rank.proofs.Nearness.{always_near}
use Rattle.sk_rank.proofs.laws.ranks_are_near.Goals as goal

pub returns : goal.returns
returns c = always_near
