use Rattle.std.proofs.Common.{◌≡◌, ◌≤◌, ℕ, ◌+◌, List, ◌++◌, length, take, decimal, ap, ◌∙◌, arith, append_assoc, length-append, length-take, length-drop}
use Rattle.std.proofs.lemmas.Fmt.{length-decimal-le}
use Rattle.sk_lines.proofs.Digits.{written_behind}
use Rattle.sk_image.proofs.writer.put_word.Goals as goal

pub put_decimal-requires : goal.put_decimal-requires
put_decimal-requires c =
    let few : length (decimal c.from.result) ≤ 10 = length-decimal-le 10 c.from.result (omega arith) (omega (arith, c.from.ensures, c.ranges.number.fits)) (omega (arith, c.from.ensures, c.ranges.number.fits)) in
    simp (length-take, length-drop, length-append) (omega (arith, few, c.requires, c.from.ensures, c.put_text.ensures.length, c.put_text.auto.into))

pub returns-clause-text : goal.returns-clause-text
returns-clause-text c =
    let at = c.args.at in
    let n = c.put_text.result in
    let m = c.put_decimal.result in
    let into : List ℕ = c.args.into.now in
    let name = c.put_text.ensures in
    let number = c.put_decimal.ensures in
    let room : length (take at into) ≡ at = omega (arith, length-take at into, c.requires) in
    let front = written_behind (take at into) c.put_text.new.into _ at n room (omega (arith, ap length name.text, name.length, length-take n c.put_text.new.into))
    ∙ ap (λ (l : List ℕ). take at into ++ l) name.text in
    written_behind _ c.put_decimal.new.into _ (at + n) m (omega (arith, ap length front, length-append (take at into) c.args.name.now, room, name.length))
    (omega (arith, ap length number.text, number.length, length-take m c.put_decimal.new.into))
    ∙ ap (λ (l : List ℕ). l ++ take m c.put_decimal.new.into) front
    ∙ ap (λ (l : List ℕ). (take at into ++ c.args.name.now) ++ l) number.text
    ∙ append_assoc (take at into) c.args.name.now (decimal c.from.result)
    ∙ ap (λ (n : ℕ). take at into ++ (c.args.name.now ++ decimal n)) c.from.ensures

pub returns-clause-most : goal.returns-clause-most
returns-clause-most c =
    let few : length (decimal c.from.result) ≤ 10 = length-decimal-le 10 c.from.result (omega arith) (omega (arith, c.from.ensures, c.ranges.number.fits)) (omega (arith, c.from.ensures, c.ranges.number.fits)) in
    omega (arith, few, c.from.ensures, c.put_text.ensures.length, c.put_decimal.ensures.length)
