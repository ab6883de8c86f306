use Rattle.std.proofs.Common.{◌≡◌, ℕ, ◌-◌, length, Some, ap, ◌∙◌, arith}
use Rattle.std.specs.List.{slice_range}
use Rattle.std.proofs.lemmas.Simd.{length-chunk}
use Rattle.sk_lines.proofs.Digits as digits
use Rattle.sk_read.proofs.Spelling as spelling
use Rattle.sk_read.proofs.wide.read_number_at.Goals as goal
use Rattle.sk_read.proofs.wide.read_number_at.Goals.{then-len-eq0-via-then-len-eq0, then-len-eq0-via-else-len-eq0+then-len-decimal_len}

pub returns-then-len-eq0 : goal.returns-then-len-eq0
returns-then-len-eq0 c =
    let line = slice_range c.args.text.now c.args.from c.args.to in
    let size : length line ≡ c.args.to - c.args.from = length-chunk c.args.from (c.args.to - c.args.from) c.args.text.now (omega (arith, c.requires)) in
    elim c.then-len-eq0.branch [
      | then-len-eq0-via-then-len-eq0 w ↦ digits.number_by_none c.args.below line (omega (arith, size, w.if-len-eq0.true))
      | then-len-eq0-via-else-len-eq0+then-len-decimal_len w ↦ digits.number_by_too_many c.args.below line (omega (arith, size, w.if-len-decimal_len.true, w.decimal_len.ensures))
    ]

pub returns-in_err-value : goal.returns-in_err-value
returns-in_err-value c =
    let line = slice_range c.args.text.now c.args.from c.args.to in
    c.from_residual.ensures ∙ digits.number_by_no_digit c.args.below line (spelling.none_spelled line c.in_err-value.ensures)

pub returns-then-value-below : goal.returns-then-value-below
returns-then-value-below c =
    let line = slice_range c.args.text.now c.args.from c.args.to in
    let size : length line ≡ c.args.to - c.args.from = length-chunk c.args.from (c.args.to - c.args.from) c.args.text.now (omega (arith, c.requires)) in
    let is = spelling.some_spelled line c.in_ok-value.value c.in_ok-value.ensures in
    ap (λ (n : ℕ). Some n) is.1 ∙ digits.number_by_digits c.args.below line is.0
    (omega (arith, size, c.requires.order, c.if-len-eq0.false)) (omega (arith, size, c.if-len-decimal_len.false, c.decimal_len.ensures)) (omega (arith, is.1, c.if-value-below.true))

pub returns-else-value-below : goal.returns-else-value-below
returns-else-value-below c =
    let line = slice_range c.args.text.now c.args.from c.args.to in
    let is = spelling.some_spelled line c.in_ok-value.value c.in_ok-value.ensures in
    digits.number_by_too_large c.args.below line (omega (arith, is.1, c.if-value-below.false))
