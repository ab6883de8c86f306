use Rattle.std.proofs.Common.{◌≡◌, ◌≢◌, ℕ, ◌+◌, ◌-◌, ◌*◌, ◌^◌, ◌≤◌, length, slice_index, Some, true≢false, arith, sym, ap, ◌∙◌, eqb-true, eq-eqb}
use Rattle.sk_model.specs.Numbers.{value_of}
use Rattle.sk_lines.proofs.Digits as digits
use Rattle.sk_lines.proofs.decimals.read_number.Goals as goal
use Rattle.sk_lines.proofs.decimals.read_number.Goals.{then-is_empty-via-then-is_empty, then-is_empty-via-else-is_empty+then-bytes-decimal_len}

pub returns-then-is_empty : goal.returns-then-is_empty
returns-then-is_empty c = elim c.then-is_empty.branch [
  | then-is_empty-via-then-is_empty w ↦ digits.number_by_none c.args.below c.args.bytes.now (eqb-true _ 0 (sym c.is_empty.ensures ∙ w.if-is_empty.true))
  | then-is_empty-via-else-is_empty+then-bytes-decimal_len w ↦ digits.number_by_too_many c.args.below c.args.bytes.now (omega (arith, w.if-bytes-decimal_len.true, w.decimal_len.ensures))
]

pub returns-then-not-are_digits : goal.returns-then-not-are_digits
returns-then-not-are_digits c = digits.number_by_no_digit c.args.below c.args.bytes.now (sym c.are_digits.ensures ∙ c.if-not-are_digits.true)

pub value_before-requires-clause-few : goal.value_before-requires-clause-few
value_before-requires-clause-few c =
    omega (arith, c.if-bytes-decimal_len.false, c.decimal_len.ensures, digits.decimal_is_short (c.args.below - 1) (omega (arith, c.ranges.below.fits)))

pub returns-in_err-tens : goal.returns-in_err-tens
returns-in_err-tens c =
    let some : length c.args.bytes.now ≢ 0 = λ none. true≢false (sym (eq-eqb _ 0 none) ∙ sym c.is_empty.ensures ∙ c.if-is_empty.false) in
    let past : 2 ^ 64 ≤ c.value_before.result * 10 = omega (arith, c.in_err-tens.ensures) in
    c.from_residual.ensures ∙ digits.number_by_too_large c.args.below c.args.bytes.now
    (omega (arith, past, c.value_before.ensures, digits.value_by_last c.args.bytes.now (omega (arith, some)), c.ranges.below.fits))

pub returns-in_err-value : goal.returns-in_err-value
returns-in_err-value c =
    let some : length c.args.bytes.now ≢ 0 = λ none. true≢false (sym (eq-eqb _ 0 none) ∙ sym c.is_empty.ensures ∙ c.if-is_empty.false) in
    let past : 2 ^ 64 ≤ 10 * c.value_before.result + (slice_index c.args.bytes.now (length c.args.bytes.now - 1) - 48) =
    omega (arith, c.in_err-value.ensures, c.from.ensures, c.in_ok-tens.ensures) in
    c.from_residual-in_err-value.ensures ∙ digits.number_by_too_large c.args.below c.args.bytes.now
    (omega (arith, past, c.value_before.ensures, digits.value_by_last c.args.bytes.now (omega (arith, some)), c.ranges.below.fits))

pub returns-then-value-below : goal.returns-then-value-below
returns-then-value-below c =
    let some : length c.args.bytes.now ≢ 0 = λ none. true≢false (sym (eq-eqb _ 0 none) ∙ sym c.is_empty.ensures ∙ c.if-is_empty.false) in
    let is : c.in_ok-value.value ≡ value_of c.args.bytes.now =
    omega (arith, c.in_ok-value.ensures, c.from.ensures, c.in_ok-tens.ensures, c.value_before.ensures, digits.value_by_last c.args.bytes.now (omega (arith, some))) in
    ap (λ (n : ℕ). Some n) is ∙ digits.number_by_digits c.args.below c.args.bytes.now (sym c.are_digits.ensures ∙ c.if-not-are_digits.false) (omega (arith, some))
    (omega (arith, c.if-bytes-decimal_len.false, c.decimal_len.ensures)) (omega (arith, is, c.if-value-below.true))

pub returns-else-value-below : goal.returns-else-value-below
returns-else-value-below c =
    let some : length c.args.bytes.now ≢ 0 = λ none. true≢false (sym (eq-eqb _ 0 none) ∙ sym c.is_empty.ensures ∙ c.if-is_empty.false) in
    let is : c.in_ok-value.value ≡ value_of c.args.bytes.now =
    omega (arith, c.in_ok-value.ensures, c.from.ensures, c.in_ok-tens.ensures, c.value_before.ensures, digits.value_by_last c.args.bytes.now (omega (arith, some))) in
    digits.number_by_too_large c.args.below c.args.bytes.now (omega (arith, is, c.if-value-below.false))
