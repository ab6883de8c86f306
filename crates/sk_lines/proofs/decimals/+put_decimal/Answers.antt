use Rattle.std.proofs.Common.{ℕ, ◌+◌, ◌%◌, List, [], ◌∷◌, ◌++◌, sym, ap, ◌∙◌, arith}
use Rattle.std.proofs.lemmas.Fmt.{decimal_step, decimal_digit}
use Rattle.std.proofs.lemmas.List.{take_more_set}
use Rattle.sk_lines.proofs.Digits as digits
use Rattle.sk_lines.proofs.decimals.+put_decimal.Goals as goal

pub put_decimal-at-requires : goal.put_decimal-at-requires
put_decimal-at-requires t c =
    let more = digits.length_decimal_more c.args.n c.if-n-lt10.false c.ranges.n.fits in
    (omega arith, omega arith)

pub bounds-into-0 : goal.bounds-into-0
bounds-into-0 t c = omega (arith, digits.one_digit c.args.n c.if-n-lt10.true)

pub returns-then-n-lt10-clause-text : goal.returns-then-n-lt10-clause-text
returns-then-n-lt10-clause-text t c =
    let one = digits.one_digit c.args.n c.if-n-lt10.true in
    take_more_set c.args.into.now 0 (48 + c.args.n) (omega arith) ∙ sym (decimal_digit c.args.n c.if-n-lt10.true)

pub returns-then-n-lt10-clause-length : goal.returns-then-n-lt10-clause-length
returns-then-n-lt10-clause-length t c = sym (digits.one_digit c.args.n c.if-n-lt10.true)

pub bounds-into-at : goal.bounds-into-at
bounds-into-at t c =
    let more = digits.length_decimal_more c.args.n c.if-n-lt10.false c.ranges.n.fits in
    omega (arith, c.put_decimal-at.ensures.length)

pub returns-clause-text : goal.returns-clause-text
returns-clause-text t c =
    let more = digits.length_decimal_more c.args.n c.if-n-lt10.false c.ranges.n.fits in
    take_more_set _ _ _ (omega (arith, c.put_decimal-at.ensures.length)) ∙ ap (λ (l : List ℕ). l ++ (48 + c.args.n % 10) ∷ []) c.put_decimal-at.ensures.text
    ∙ sym (decimal_step c.args.n c.if-n-lt10.false c.ranges.n.fits)

pub returns-clause-length : goal.returns-clause-length
returns-clause-length t c =
    omega (arith, c.put_decimal-at.ensures.length, digits.length_decimal_more c.args.n c.if-n-lt10.false c.ranges.n.fits)

pub returns-clause-most : goal.returns-clause-most
returns-clause-most t c =
    omega (arith, c.put_decimal-at.ensures.length, digits.length_decimal_more c.args.n c.if-n-lt10.false c.ranges.n.fits, digits.decimal_is_short c.args.n c.ranges.n.fits)
