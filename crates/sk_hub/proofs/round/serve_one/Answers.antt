use Rattle.std.proofs.Common.{ap}
use Rattle.sk_hub.proofs.Steps.{finds_batch, serves_found_if}
use Rattle.sk_hub.proofs.round.serve_one.Goals as goal

pub returns-clause-steps : goal.returns-clause-steps
returns-clause-steps g c =
    serves_found_if c.args.seat.now.view c.find.new.self.view c.take-parcel.new.self.view _ c.args.i _ (finds_batch _ _ c.args.i c.requires.within (c.find.ensures.told.1 c.if-find-ne0.false))
    (ap (λ s. s.view) c.take-parcel.ensures.seat) c.publish_batch.ensures.some c.publish_batch.ensures.steps
