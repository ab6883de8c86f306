use Rattle.std.proofs.Common.{◌≡◌, ℕ, ◌+◌, ◌-◌, ◌<◌, List, [], ◌∷◌, ◌++◌, length, set, take, ap, ◌∙◌, arith}
use Rattle.std.proofs.lemmas.List.{take_more_set}
use Rattle.sk_make.proofs.Spelling.{digits_are_few}
use Rattle.sk_make.proofs.line.Line.set.Goals as goal

pub put_decimal-digits-requires : goal.put_decimal-digits-requires
put_decimal-digits-requires c = let few = digits_are_few c.args.number c.requires in omega (arith, few, c.self.told)

pub bounds-self-inside-digits : goal.bounds-self-inside-digits
bounds-self-inside-digits c = let few = digits_are_few c.args.number c.requires in omega (arith, few, c.put_decimal-digits.ensures.length)

pub invariant_of-self : goal.invariant_of-self
invariant_of-self c = let few = digits_are_few c.args.number c.requires in (omega arith, omega (arith, few, c.put_decimal-digits.ensures.length))

pub returns-clause-line : goal.returns-clause-line
returns-clause-line c =
    let few = digits_are_few c.args.number c.requires in
    let digits = c.put_decimal-digits.result in
    let room : digits < length c.put_decimal-digits.new.into = omega (arith, few, c.put_decimal-digits.ensures.length, c.put_decimal-digits.auto.into, c.self.told) in
    let end : digits + 1 - 0 ≡ digits + 1 = omega arith in
    ap (λ (k : ℕ). take k (set c.put_decimal-digits.new.into digits 10)) end ∙ take_more_set c.put_decimal-digits.new.into digits 10 room
    ∙ ap (λ (l : List ℕ). l ++ 10 ∷ []) c.put_decimal-digits.ensures.text
