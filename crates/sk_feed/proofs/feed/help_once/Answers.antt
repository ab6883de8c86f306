use Rattle.sk_hub.proofs.Calls.{helped}
use Rattle.sk_feed.proofs.feed.help_once.Goals as goal

pub returns-in-Elsewhere-clause-none : goal.returns-in-Elsewhere-clause-none
returns-in-Elsewhere-clause-none g c = helped c.args.u.now c.help.new.self c.help.ensures.stays c.help.ensures.knows
