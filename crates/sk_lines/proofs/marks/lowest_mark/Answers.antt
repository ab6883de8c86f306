use Rattle.std.proofs.Common.{ℕ, arith, w64}
use Rattle.std.specs.Int.Bits.{bit_or}
use Rattle.std.proofs.lemmas.Nat.Bits.{bit_at-trailing_zeros, bit_at_set_other}
use Rattle.std.proofs.lemmas.Nat.{or_lt, le_or_r}
use Rattle.sk_lines.proofs.Ends.{lowest_beside}
use Rattle.sk_lines.proofs.marks.lowest_mark.Goals as goal

pub returns : goal.returns
returns c =
    let all : ℕ = bit_or c.args.marks 9223372036854775808 in
    let h = bit_at-trailing_zeros w64 all (omega (arith, le_or_r c.args.marks 9223372036854775808)) (or_lt 64 c.args.marks 9223372036854775808 c.ranges.marks.fits (omega arith)) in
    let l = lowest_beside c.args.marks c.ranges.marks.fits all _ (bit_at_set_other w64 c.args.marks 63 (omega arith)) h.0 h.1 h.2 in
    record { bound = h.0; set = l.0; below = l.1 }
