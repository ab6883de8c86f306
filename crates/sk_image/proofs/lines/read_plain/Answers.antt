use Rattle.std.proofs.Common.{◌≡◌, length, get_or, arith, sym, ◌∙◌}
use Rattle.sk_image.proofs.Numbers.{decimal_is_read, read_is_decimal, no_leading_zero, number_below, some_digit}
use Rattle.sk_image.proofs.lines.read_plain.Goals as goal
use Rattle.sk_image.proofs.lines.read_plain.Goals.{else-bytes-gt1-via-then-bytes-gt1+else-bytes-eq48, else-bytes-gt1-via-else-bytes-gt1}

pub returns-then-bytes-eq48-clause-exact : goal.returns-then-bytes-eq48-clause-exact
returns-then-bytes-eq48-clause-exact c = λ n small. (
  λ e. absurd cc,
  λ is. absurd (no_leading_zero n c.args.bytes.now (omega (arith, small, c.ranges.below.fits)) is (omega (arith, c.if-bytes-gt1.true)) c.if-bytes-eq48.true),
)

pub returns-clause-limit : goal.returns-clause-limit
returns-clause-limit c = number_below c.args.below c.args.bytes.now c.read_number.result c.read_number.ensures

pub returns-clause-exact : goal.returns-clause-exact
returns-clause-exact c = λ n small.
    let plain : get_or c.args.bytes.now 0 0 ≡ 48 → length c.args.bytes.now ≡ 1 = λ zero. elim c.else-bytes-gt1.branch [
      | else-bytes-gt1-via-then-bytes-gt1+else-bytes-eq48 w ↦ absurd (w.if-bytes-eq48.false zero)
      | else-bytes-gt1-via-else-bytes-gt1 w ↦
          let some = some_digit c.args.bytes.now zero in
          omega (arith, w.if-bytes-gt1.false, some)
    ] in (
      λ e. (read_is_decimal c.args.below n c.args.bytes.now c.ranges.below.fits plain (sym c.read_number.ensures ∙ e)).1,
      λ is. c.read_number.ensures ∙ decimal_is_read c.args.below n c.args.bytes.now c.ranges.below.fits small is,
    )
