use Rattle.std.proofs.Common.{◌%◌, ◌+◌, List, [], ◌∷◌, ◌++◌, ℕ, ap, ◌∙◌, arith}
use Rattle.std.proofs.lemmas.List.{take_more_set}
use Rattle.sk_decimal.proofs.Numbers.{no_digits, more_digits}
use Rattle.sk_decimal.proofs.words.+put_last_digits.Goals as goal

pub returns-then-width-eq0-clause-text : goal.returns-then-width-eq0-clause-text
returns-then-width-eq0-clause-text t c = no_digits c.args.width c.args.n c.if-width-eq0.true

pub returns-clause-text : goal.returns-clause-text
returns-clause-text t c =
    take_more_set _ _ _ (omega (arith, c.put_last_digits-at.ensures.length)) ∙ ap (λ (l : List ℕ). l ++ (48 + c.args.n % 10) ∷ []) c.put_last_digits-at.ensures.text
    ∙ more_digits c.args.width c.args.n c.if-width-eq0.false
