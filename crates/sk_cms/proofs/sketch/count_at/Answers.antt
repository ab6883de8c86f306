use Rattle.std.proofs.Common.{arith}
use Rattle.sk_cms.proofs.Joined.{joined_at}
use Rattle.sk_cms.proofs.sketch.count_at.Goals as goal

pub overflow_mul-result : goal.overflow_mul-result
overflow_mul-result c = omega (arith, joined_at c.args.low.now c.args.high.now c.args.at c.requires.sizes, c.requires.small)

pub overflow_add-result : goal.overflow_add-result
overflow_add-result c =
    omega (arith, c.from.ensures, joined_at c.args.low.now c.args.high.now c.args.at c.requires.sizes, c.requires.small)

pub returns : goal.returns
returns c = omega (arith, c.from.ensures, joined_at c.args.low.now c.args.high.now c.args.at c.requires.sizes)
