use Rattle.std.proofs.Common.{◌∙◌}
use Rattle.sk_read.specs.declared.fault.Fault.TheVariants as fault
use Rattle.sk_feed.specs.Hubs.{hub_of}
use Rattle.sk_fill.proofs.Readings.{ok_three, steady_on_ok}
use Rattle.sk_ingest.proofs.windowed.WindowedUnitTaker.take.Goals as goal

pub returns-clause-went : goal.returns-clause-went
returns-clause-went g c =
    let p = g.P.Report in let made = c.take_unit.ensures in
    ok_three c.take_unit.result made.setup (steady_on_ok fault.WriteFault (p.faults c.args.self.now.report.now) (p.faults c.take_unit.new.report) c.take_unit.result made.report.cause) made.went
    (λ setup steady went. λ start units count before. (
      before.0,
      setup,
      went (hub_of start.opened.now) start.report.now units count before.2,
      record { steady = steady ∙ before.3.steady; stands = made.report.stands ∙ before.3.stands; named = made.report.named ∙ before.3.named },
    ))
