use Rattle.std.proofs.Common.{length}
use Rattle.sk_line.proofs.Pumping.{pumped_helped, helps}
use Rattle.sk_line.proofs.help_pump.HelpPumpPump.pump.Goals as goal

pub returns-clause-updater : goal.returns-clause-updater
returns-clause-updater g c =
    let n = c.help.ensures in
    pumped_helped c.args.u.now c.help.new.self (length c.args.u.now.view.sizes) c.help.result n.stays n.knows n.served n.elsewhere n.refused

pub returns-clause-helps : goal.returns-clause-helps
returns-clause-helps g c =
    let n = c.help.ensures in
    helps c.args.u.now.view c.help.new.self.view (length c.args.u.now.view.sizes) c.help.result n.served n.elsewhere n.refused
