use Rattle.std.proofs.Common.{slice_range}
use Rattle.sk_desks.proofs.ClerkLaws.{taken_or_not}
use Rattle.sk_desks.proofs.calls.give_any.Goals as goal

pub returns : goal.returns
returns g c = taken_or_not c.args.seed c.args.desk.now c.give.new.desk (slice_range c.args.text.now c.args.span.from c.args.span.to) c.give.result c.give.ensures.took c.give.ensures.stopped c.give.ensures.unchanged
