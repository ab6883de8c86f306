use Rattle.sk_snap.proofs.Thetas.{taken_is}
use Rattle.sk_snap.proofs.theta.HeapThetaSequential.take.Goals as goal

pub returns : goal.returns
returns c = record { after = taken_is c.args.self.now c.merge.new.self c.args.items.now c.k-k.ensures.whole c.merge.ensures.numbers c.merge.ensures.stands }
