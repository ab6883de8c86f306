use Rattle.std.proofs.Common.{arith, inl, inr, ⊎_elim}
use Rattle.std.proofs.lemmas.Bool.{cases_lt}
use Rattle.sk_lines.proofs.Digits as digits
use Rattle.sk_lines.proofs.decimals.decimal_len.Goals as goal

pub returns : goal.returns
returns c =
    digits.length_decimal c.ilog10.result c.args.n c.max.result c.ranges.n.fits
    (⊎_elim (λ some. inl (omega (arith, c.max.ensures, some))) (λ none. inr (omega (arith, none), omega (arith, c.max.ensures, none))) (cases_lt 0 c.args.n))
    c.ilog10.ensures.power_le c.ilog10.ensures.next_power_gt
