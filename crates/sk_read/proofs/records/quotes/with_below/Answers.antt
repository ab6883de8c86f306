use Rattle.std.proofs.Common.{◌+◌, ◌*◌, ◌%◌, ◌^◌, ℕ, ap, ◌∙◌, arith}
use Rattle.std.specs.Int.{bit_at}
use Rattle.std.proofs.lemmas.Nat.{pow_pos}
use Rattle.std.proofs.lemmas.Nat.Bits.{bit_at-lt, bit_at_xor}
use Rattle.sk_read.proofs.Quotes.{shifted_low, shifted_high}
use Rattle.sk_read.proofs.records.quotes.with_below.Goals as goal

pub returns-clause-low : goal.returns-clause-low
returns-clause-low c k less =
    omega (arith, bit_at_xor c.args.bits (c.args.bits * 2 ^ c.args.by % 2 ^ 64) k, shifted_low c.args.bits c.args.by k less (omega (arith, less, c.requires)), bit_at-lt c.args.bits k)

pub returns-clause-high : goal.returns-clause-high
returns-clause-high c k most below =
    bit_at_xor c.args.bits (c.args.bits * 2 ^ c.args.by % 2 ^ 64) k ∙ ap (λ (m : ℕ). (bit_at c.args.bits k + m) % 2) (shifted_high c.args.bits c.args.by k most below (pow_pos c.args.by))
