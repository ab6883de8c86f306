use Rattle.sk_snap.proofs.Thetas.{new_is}
use Rattle.sk_snap.proofs.theta.HeapThetaSequential.open.Goals as goal

pub returns : goal.returns
returns c = record { value = new_is c.args.setup c.new.result c.new.ensures.numbers c.new.ensures.stands }
