use Rattle.std.proofs.Common.{rules}
use Rattle.sk_feed.specs.Hubs.{hub_of}
use Rattle.sk_ingest.proofs.OneByOneLaws.{alone_read}
use Rattle.sk_ingest.proofs.ingesting.ingest_one_by_one.Goals as goal

pub returns-clause-read : goal.returns-clause-read
returns-clause-read g c =
    let k = g.C.Composable in let taker = c.read_units.new.taker in
    alone_read _ k.keeps_of k.hint_of c.args.plan.now taker.plan _ c.of.result c.args.plan.now.most (hub_of c.args.opened.now) (hub_of taker.opened.now) _ (g.S.Source.left c.args.source.now) (g.S.Source.left c.read_units.new.source) c.read_units.result
    c.of.ensures (search rules) c.read_units.ensures.read
