use Rattle.std.proofs.Common.{arith, refl, ◌∙◌}
use Rattle.sk_hub.proofs.Steps.{serves_none, serves_more}
use Rattle.sk_hub.proofs.round.serve_each.Goals as goal

pub each-init : goal.each-init
each-init g c = record { steps = serves_none c.args.seat.now.view c.args.from; few = omega arith; idle = c.requires.idle; stays = refl }

pub each-preserved : goal.each-preserved
each-preserved g c = let i = c.each.invariant in record {
  steps = serves_more c.args.seat.now.view c.each.seat.view c.serve_one.new.seat.view c.args.from c.each.served c.each.count c.in-Ok.more i.steps c.in-Ok.ensures.steps;
  few = omega (arith, i.few, c.in-Ok.ensures.few);
  idle = c.in-Ok.ensures.idle;
  stays = c.in-Ok.ensures.seat ∙ λ a. record (i.stays a) { view = c.serve_one.new.seat.view };
}
