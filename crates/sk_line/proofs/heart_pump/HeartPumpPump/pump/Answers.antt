use Rattle.sk_line.proofs.Pumping.{sweeps}
use Rattle.sk_line.proofs.heart_pump.HeartPumpPump.pump.Goals as goal

pub returns-clause-sweeps : goal.returns-clause-sweeps
returns-clause-sweeps g c =
    let n = c.sweep.ensures in
    sweeps c.args.self.now.heart.now.view c.sweep.new.self.view c.args.self.now.heart.now.updaters c.sweep.result n.swept n.elsewhere n.refused
