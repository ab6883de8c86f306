use Rattle.sk_hub.proofs.Calls.{helped}
use Rattle.uses.proofs.feeding.help.Goals as goal

pub returns : goal.returns
returns g c = helped c.args.updater.now c.help.new.self c.help.ensures.stays c.help.ensures.knows
