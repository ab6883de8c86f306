use Rattle.sk_feed.specs.Hubs.{hub_of}
use Rattle.sk_feed.proofs.HubLaws.{leaves_same}
use Rattle.sk_tally.proofs.whole.UnaskedReportItemCount.at.Goals as goal

pub returns-clause-leaves : goal.returns-clause-leaves
returns-clause-leaves c = leaves_same (hub_of c.args._opened.now)
