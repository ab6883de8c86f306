use Rattle.std.proofs.Common.{arith, w64}
use Rattle.std.specs.Int.{bit_not}
use Rattle.std.proofs.lemmas.Nat.Bits.{bit_at-lt, bit_at_and, bit_at_not}
use Rattle.sk_read.proofs.records.quotes.without.Goals as goal

pub returns-clause-set : goal.returns-clause-set
returns-clause-set c k below set =
    let both = bit_at_and c.args.marks (bit_not w64 c.args.others) k in
    let other = bit_at_not w64 c.args.others k c.ranges.others.fits below in
    (omega (arith, set, both, other, bit_at-lt c.args.marks k), omega (arith, set, both, other, bit_at-lt c.args.marks k))

pub returns-clause-unset : goal.returns-clause-unset
returns-clause-unset c k below unset mark =
    omega (arith, unset, mark, bit_at_and c.args.marks (bit_not w64 c.args.others) k, bit_at_not w64 c.args.others k c.ranges.others.fits below, bit_at-lt c.args.others k)
