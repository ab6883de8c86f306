use Rattle.std.proofs.Common.{◌≡◌, ◌≢◌, ℕ, length, Some, true≢false, arith, sym, ap, ◌∙◌, eqb-true, eq-eqb}
use Rattle.sk_decimal.proofs.Numbers as numbers
use Rattle.sk_decimal.proofs.words.short_number.Goals as goal
use Rattle.sk_decimal.proofs.words.short_number.Goals.{then-is_empty-via-then-is_empty, then-is_empty-via-else-is_empty+then-word-most}

pub returns-then-is_empty-clause-number : goal.returns-then-is_empty-clause-number
returns-then-is_empty-clause-number c = elim c.then-is_empty.branch [
  | then-is_empty-via-then-is_empty w ↦ numbers.no_number_by_none c.args.most c.args.word.now (eqb-true _ 0 (sym c.is_empty.ensures ∙ w.if-is_empty.true))
  | then-is_empty-via-else-is_empty+then-word-most w ↦ numbers.no_number_by_many c.args.most c.args.word.now w.if-word-most.true
]

pub returns-then-not-are_digits-clause-number : goal.returns-then-not-are_digits-clause-number
returns-then-not-are_digits-clause-number c = numbers.no_number_by_other c.args.most c.args.word.now (sym c.are_digits.ensures ∙ c.if-not-are_digits.true)

pub returns-clause-number : goal.returns-clause-number
returns-clause-number c =
    let some : length c.args.word.now ≢ 0 = λ none. true≢false (sym (eq-eqb _ 0 none) ∙ sym c.is_empty.ensures ∙ c.if-is_empty.false) in
    ap (λ (n : ℕ). Some n) c.value.ensures.value ∙ numbers.number_is c.args.most c.args.word.now (sym c.are_digits.ensures ∙ c.if-not-are_digits.false) (omega (arith, some)) c.if-word-most.false

pub returns-clause-small : goal.returns-clause-small
returns-clause-small c =
    let small = numbers.value_small c.args.word.now c.args.most c.if-word-most.false (omega (arith, c.value.ensures.small, c.value.ensures.value)) in
    omega (arith, small, c.value.ensures.value)
