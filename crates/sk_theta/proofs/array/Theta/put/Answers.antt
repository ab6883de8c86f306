use Rattle.std.proofs.Common.{arith}
use Rattle.sk_theta.proofs.Sketches.{IsWhole-placed}
use Rattle.sk_theta.proofs.array.Theta.put.Goals as goal

pub invariant_of-self : goal.invariant_of-self
invariant_of-self c =
    let inside = c.self.inside in
    (IsWhole-placed inside.k c.args.h inside.kept.items c.put_among-changed.new.kept.items c.put_among-changed.ensures.items (c.requires.item) (c.self.invariant.0), omega arith, rw c.as_slice.ensures.value at c.theta_among-self-inside.ensures)
