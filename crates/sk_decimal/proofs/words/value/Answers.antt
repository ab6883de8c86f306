use Rattle.std.proofs.Common.{◌≡◌, ◌^◌, ℕ, length, ap, sym, arith}
use Rattle.sk_lines.proofs.Digits.{value_of_more, value_of_none, value_below}
use Rattle.sk_decimal.proofs.Numbers.{value_fits}
use Rattle.sk_decimal.proofs.words.value.Goals as goal

pub digit-init : goal.digit-init
digit-init c = sym value_of_none

pub overflow_mul-value : goal.overflow_mul-value
overflow_mul-value c =
    omega (arith, c.digit.invariant, value_fits c.args.word.now c.digit.i (omega (arith, c.digit-test.true)) c.requires.few c.requires.digits)

pub overflow_add-value : goal.overflow_add-value
overflow_add-value c =
    omega (arith, c.digit.invariant, c.from.ensures, value_fits c.args.word.now c.digit.i (omega (arith, c.digit-test.true)) c.requires.few c.requires.digits)

pub digit-preserved : goal.digit-preserved
digit-preserved c = omega (arith, c.digit.invariant, c.from.ensures, value_of_more c.args.word.now c.digit.i (omega (arith, c.digit-test.true)))

pub returns-clause-small : goal.returns-clause-small
returns-clause-small c =
    let end : c.digit.i ≡ length c.args.word.now = omega (arith, c.digit-test.false) in
    let whole = value_below c.args.word.now c.digit.i (omega arith) c.requires.digits in
    omega (arith, whole, ap (λ (n : ℕ). 10 ^ n) end, c.digit.invariant)
