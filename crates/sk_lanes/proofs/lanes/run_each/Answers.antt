use Rattle.std.proofs.Common.{arith}
use Rattle.sk_lanes.proofs.lanes.run_each.Goals as goal

pub returns : goal.returns
returns g c = record {
  count = omega (arith, c.for_each_mut.auto.s);
  each = λ i d inside. let call = (c.for_each_mut.ensures i d inside).1 in record { ring = grind arith; taken = grind arith };
}
