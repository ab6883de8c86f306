use Rattle.std.proofs.Common.{◌≡◌, ℕ, ◌-◌, ◌^◌, List, ◌++◌, Some, length, take, drop, ap, sym, ◌∙◌, subst, arith}
use Rattle.std.proofs.lemmas.List.{take_rest}
use Rattle.sk_decimal.specs.Decimal.{decimal_of, pointed}
use Rattle.sk_decimal.specs.Rounded.{fraction_of, last_word}
use Rattle.sk_decimal.proofs.Numbers.{last_replaced}
use Rattle.sk_decimal.proofs.words.round_last.Goals as goal

pub returns-in-Some-clause-line : goal.returns-in-Some-clause-line
unfolding decimal_of
returns-in-Some-clause-line c =
    let line = c.args.line.now in
    let start = c.word_start-start.result in
    let word : drop start line ≡ last_word line = subst (λ (l : List ℕ). drop start l ≡ last_word l) c.bytes.ensures c.word_start-start.ensures.word in
    let read : Some (c.in-Some.n, c.in-Some.d) ≡ fraction_of (drop start line) =
    c.in-Some.ensures.fraction ∙ ap fraction_of (take_rest c.bytes-2.result.now start ∙ ap (drop start) c.bytes-2.ensures) in
    let text = c.put_units-len.ensures.text ∙ ap (pointed c.args.digits) c.units_of.ensures in
    c.push.ensures ∙ ap (λ (l : List ℕ). l ++ take c.put_units-len.result c.put_units-len.new.into) c.cut.ensures
    ∙ last_replaced c.args.digits line _ start c.in-Some.n c.in-Some.d (omega (arith, c.word_start-start.ensures.within, ap length c.bytes.ensures)) word read text
