use Rattle.sk_feed.specs.Hubs.{hub_of}
use Rattle.sk_feed.proofs.Rounds.{ok_then}
use Rattle.sk_ingest.proofs.one_by_one.OneByOneUnitTaker.take.Goals as goal

pub returns-clause-went : goal.returns-clause-went
returns-clause-went g c = ok_then c.take_unit.result c.take_unit.ensures.went (λ went. λ start units count before. (before.0, c.take_unit.ensures.alone, went (hub_of start.opened.now) units count before.2))
