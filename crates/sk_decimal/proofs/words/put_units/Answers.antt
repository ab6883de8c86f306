use Rattle.std.proofs.Common.{◌≡◌, ℕ, ◌+◌, ◌/◌, ◌^◌, ◌<◌, List, [], ◌∷◌, ◌++◌, length, take, slice_set, decimal, ap, ◌∙◌, arith, length-take, length-append}
use Rattle.std.proofs.lemmas.List.{take_more_set}
use Rattle.sk_lines.proofs.Digits.{written_behind}
use Rattle.sk_decimal.specs.Decimal.{last_digits}
use Rattle.sk_decimal.proofs.Numbers.{no_point, with_point, ten_power_some, length_digits}
use Rattle.sk_decimal.proofs.words.put_units.Goals as goal

pub nonzero_div-units : goal.nonzero_div-units
nonzero_div-units c = omega (arith, c.scale_of-scale.ensures, ten_power_some c.args.digits)

pub returns-then-digits-eq0-clause-text : goal.returns-then-digits-eq0-clause-text
returns-then-digits-eq0-clause-text c =
    c.put_text-whole.ensures.text ∙ c.as_bytes.ensures.value ∙ c.format.ensures.text ∙ ap (λ (s : ℕ). decimal (c.args.units / s)) c.scale_of-scale.ensures
    ∙ no_point c.args.digits c.args.units c.if-digits-eq0.true

pub returns-clause-text : goal.returns-clause-text
returns-clause-text c =
    let into : List ℕ = c.put_text-whole.new.into in
    let place : ℕ = c.put_text-whole.result in
    let digits : ℕ = c.put_last_digits.result in
    let whole : take place into ≡ decimal (c.args.units / 10 ^ c.args.digits) =
    c.put_text-whole.ensures.text ∙ c.as_bytes.ensures.value ∙ c.format.ensures.text ∙ ap (λ (s : ℕ). decimal (c.args.units / s)) c.scale_of-scale.ensures in
    let within : place < length into = omega (arith, c.put_text-whole.auto.into, c.put_text-whole.ensures.length, c.as_bytes.ensures.len, c.format.ensures.fits) in
    let marked : take (place + 1) (slice_set into place 46) ≡ decimal (c.args.units / 10 ^ c.args.digits) ++ 46 ∷ [] =
    take_more_set into place 46 within ∙ ap (λ (l : List ℕ). l ++ 46 ∷ []) whole in
    let long : length (take (place + 1) (slice_set into place 46)) ≡ place + 1 =
    omega (arith, ap length marked, length-append (decimal (c.args.units / 10 ^ c.args.digits)) (46 ∷ []), ap length whole, length-take place into, within) in
    written_behind _ c.put_last_digits.new.into _ (place + 1) digits long
    (omega (arith, c.put_last_digits.ensures.length, ap length c.put_last_digits.ensures.text, length_digits c.args.digits c.args.units, length-take digits c.put_last_digits.new.into))
    ∙ ap (λ (l : List ℕ). l ++ take digits c.put_last_digits.new.into) marked
    ∙ ap (λ (l : List ℕ). (decimal (c.args.units / 10 ^ c.args.digits) ++ 46 ∷ []) ++ l) c.put_last_digits.ensures.text
    ∙ with_point c.args.digits c.args.units c.if-digits-eq0.false
