use Rattle.sk_feed.specs.Hubs.{hub_of}
use Rattle.sk_fill.proofs.Readings.{ok_two}
use Rattle.sk_ingest.proofs.itemized.ItemizedUnitTaker.take.Goals as goal

pub returns-clause-went : goal.returns-clause-went
returns-clause-went g c = ok_two c.take_unit.result c.take_unit.ensures.plan c.take_unit.ensures.went
    (λ plan went. λ start units count before. (before.0, plan, went (hub_of start.opened.now) units count before.2))
