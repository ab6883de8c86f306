use Rattle.std.proofs.Common.{◌+◌, arith}
use Rattle.std.proofs.lemmas.Nat.Bits.{bit_at_xor}
use Rattle.sk_read.proofs.records.quotes.between_quotes.Goals as goal

pub returns-clause-first : goal.returns-clause-first
returns-clause-first c = omega (arith, bit_at_xor c.parity_of.result c.all_or_none.result 0, c.parity_of.ensures.first, c.all_or_none.ensures 0 (omega arith))

pub returns-clause-next : goal.returns-clause-next
returns-clause-next c k below =
    omega (
      arith,
      bit_at_xor c.parity_of.result c.all_or_none.result (k + 1),
      bit_at_xor c.parity_of.result c.all_or_none.result k,
      c.parity_of.ensures.next k below,
      c.all_or_none.ensures (k + 1) (omega (arith, below)),
      c.all_or_none.ensures k (omega (arith, below)),
    )
