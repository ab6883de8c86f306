use Rattle.sk_feed.proofs.HubLaws.{heart_goes}
use Rattle.sk_feed.proofs.beside.HeartPropagates.propagate_on.Goals as goal

pub returns-in_err-idle-clause-goes : goal.returns-in_err-idle-clause-goes
returns-in_err-idle-clause-goes g c = heart_goes c.args.self.now c.sweep.self c.sweep_counting.new.heart c.sweep.invariant c.sweep_counting.ensures.heart

pub sweep-preserved : goal.sweep-preserved
sweep-preserved g c = heart_goes c.args.self.now c.sweep.self c.sweep_counting.new.heart c.sweep.invariant c.sweep_counting.ensures.heart
