use Rattle.std.proofs.Common.{◌-◌, ◌+◌, ◌≡◌, ◌∙◌, length, decimal, sym, arith, refl, inl}
use Rattle.sk_model.specs.Numbers.{value_of}
use Rattle.sk_model.specs.Width.{number_end}
use Rattle.sk_lines.proofs.Digits.{length_decimal}
use Rattle.sk_read.proofs.Spelling.{few_digits, nineteen_digits}
use Rattle.sk_read.proofs.kind.is_short_number.Goals as goal

long : 18 + 1 ≡ length (decimal (number_end - 1))
long = length_decimal 18 (number_end - 1) (number_end - 1) (omega arith) (inl refl) (omega arith) (omega arith)

pub returns-then-line-lt57 : goal.returns-then-line-lt57
returns-then-line-lt57 c = λ digits.
    let line = c.args.line.now in
    (value_of line, sym (nineteen_digits number_end line (omega arith) (omega (arith, long)) (omega (arith, c.in-19.is)) (omega (arith, c.if-line-lt57.true)) (sym c.are_digits.ensures ∙ digits)))

pub returns-in-1-to-18 : goal.returns-in-1-to-18
returns-in-1-to-18 c = λ digits.
    let line = c.args.line.now in
    (value_of line, sym (few_digits number_end 18 line (omega arith) (omega (arith, long)) (omega (arith, c.in-1-to-18)) (omega (arith, c.in-1-to-18)) (sym c.are_digits-in-1-to-18.ensures ∙ digits)))
