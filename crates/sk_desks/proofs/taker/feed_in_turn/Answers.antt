use Rattle.std.proofs.Common.{arith}
use Rattle.sk_desks.proofs.LaneLaws.{taken_in_turn}
use Rattle.sk_desks.proofs.taker.feed_in_turn.Goals as goal

pub returns : goal.returns
returns g c =
    taken_in_turn c.args.seed c.args.stretch.now.windows c.args.takers.now.items c.taker.takers.items c.len-n.result c.taker.i
    (omega (arith, c.len-n.ensures, c.args.takers.now.ok)) (omega (arith, c.taker-test.false, c.len-n.ensures, c.args.takers.now.ok)) c.taker.invariant
