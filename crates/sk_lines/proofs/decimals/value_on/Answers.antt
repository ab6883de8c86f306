use Rattle.std.proofs.Common.{arith}
use Rattle.sk_lines.proofs.Digits.{few_digits_fit, value_of_more}
use Rattle.sk_lines.proofs.decimals.value_on.Goals as goal

pub overflow_mul-value : goal.overflow_mul-value
overflow_mul-value c =
    omega (arith, c.digit.invariant.value, few_digits_fit c.args.bytes.now c.digit.i (omega (arith, c.digit-test.true, c.requires.within)) (omega (arith, c.digit-test.true, c.requires.few)) c.requires.digits)

pub overflow_add-value : goal.overflow_add-value
overflow_add-value c =
    omega (arith, c.digit.invariant.value, c.from.ensures, few_digits_fit c.args.bytes.now c.digit.i (omega (arith, c.digit-test.true, c.requires.within)) (omega (arith, c.digit-test.true, c.requires.few)) c.requires.digits)

pub digit-preserved : goal.digit-preserved
digit-preserved c = record {
  value = omega (arith, c.digit.invariant.value, c.from.ensures, value_of_more c.args.bytes.now c.digit.i (omega (arith, c.digit-test.true, c.requires.within)));
}
