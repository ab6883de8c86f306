use Rattle.std.proofs.Common.{◌≡◌, ℕ, ◌+◌, ◌-◌, List, take, drop, length, None, Some, Option, ap, ◌∙◌}
use Rattle.std.proofs.lemmas.List.{take_rest}
use Rattle.sk_decimal.specs.Rounded.{short_number}
use Rattle.sk_decimal.proofs.Numbers as numbers
use Rattle.sk_decimal.proofs.words.read_fraction.Goals as goal

pub returns-then-slash-word-clause-fraction : goal.returns-then-slash-word-clause-fraction
returns-then-slash-word-clause-fraction c = numbers.no_slash c.args.word.now c.slash_place-slash.result c.slash_place-slash.ensures.place c.if-slash-word.true

pub returns-in_err-n-clause-fraction : goal.returns-in_err-n-clause-fraction
returns-in_err-n-clause-fraction c = c.from_residual.ensures ∙ numbers.no_numerator c.args.word.now c.slash_place-slash.result c.slash_place-slash.ensures.place c.in_err-n.ensures.number

pub returns-in_err-d-clause-fraction : goal.returns-in_err-d-clause-fraction
returns-in_err-d-clause-fraction c =
    let slash = c.slash_place-slash.result in
    c.from_residual-in_err-d.ensures ∙ numbers.no_denominator_read c.args.word.now slash c.slash_place-slash.ensures.place (c.in_err-d.ensures.number ∙ ap (short_number 20) (take_rest c.args.word.now (slash + 1)))

pub returns-then-d-eq0-clause-fraction : goal.returns-then-d-eq0-clause-fraction
returns-then-d-eq0-clause-fraction c =
    let slash = c.slash_place-slash.result in
    numbers.zero_denominator c.args.word.now slash c.slash_place-slash.ensures.place c.in_ok-d.d c.if-d-eq0.true (c.in_ok-d.ensures.number ∙ ap (short_number 20) (take_rest c.args.word.now (slash + 1)))

pub returns-else-d-eq0-clause-fraction : goal.returns-else-d-eq0-clause-fraction
returns-else-d-eq0-clause-fraction c =
    let slash = c.slash_place-slash.result in
    numbers.fraction_read c.args.word.now slash c.slash_place-slash.ensures.place c.in_ok-n.n c.in_ok-d.d c.if-d-eq0.false c.in_ok-n.ensures.number (c.in_ok-d.ensures.number ∙ ap (short_number 20) (take_rest c.args.word.now (slash + 1)))
