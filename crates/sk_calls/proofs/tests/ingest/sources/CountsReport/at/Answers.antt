use Rattle.std.proofs.Common.{refl}
use Rattle.sk_feed.specs.Hubs.{hub_of}
use Rattle.sk_feed.proofs.HubLaws.{asked_hub}
use Rattle.sk_calls.proofs.tests.ingest.sources.CountsReport.at.Goals as goal

pub returns-then-len-self-clause-hub : goal.returns-then-len-self-clause-hub
returns-then-len-self-clause-hub g c = asked_hub g.C.Composable.packed_of (hub_of c.args.opened.now) _ c.ask.result c.ask.ensures.reply c.ask.ensures.table refl refl c.requires.hub

pub returns-in-Ok-clause-hub : goal.returns-in-Ok-clause-hub
returns-in-Ok-clause-hub g c = asked_hub g.C.Composable.packed_of (hub_of c.args.opened.now) _ c.ask.result c.ask.ensures.reply c.ask.ensures.table refl refl c.requires.hub

pub returns-in-Err-clause-hub : goal.returns-in-Err-clause-hub
returns-in-Err-clause-hub g c = asked_hub g.C.Composable.packed_of (hub_of c.args.opened.now) _ c.ask.result c.ask.ensures.reply c.ask.ensures.table refl refl c.requires.hub
