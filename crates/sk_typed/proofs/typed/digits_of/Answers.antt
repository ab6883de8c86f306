use Rattle.std.proofs.Common.{◌≡◌, ◌∙◌, ◌<◌, ℕ, List, Option, Some, ap, sym, subst, arith}
use Rattle.std.specs.Option.{IfSome}
use Rattle.sk_model.proofs.Numbers.{number_below}
use Rattle.sk_model.specs.Numbers.{number_of}
use Rattle.sk_typed.proofs.Counts.{counted}
use Rattle.sk_typed.proofs.typed.digits_of.Goals as goal

below : (word : List ℕ) (n : ℕ) → Some n ≡ number_of 7 word → n < 7
below word n is = subst (λ (o : Option ℕ). IfSome o (λ m. m < 7)) (sym is) (number_below 7 word)

pub overflow_cast-number : goal.overflow_cast-number
overflow_cast-number c = omega (arith, below c.as_bytes.result.now c.in_ok-number.number c.in_ok-number.ensures)

pub returns : goal.returns
returns c = counted c.new.result c.in_ok-number.number (below c.as_bytes.result.now c.in_ok-number.number c.in_ok-number.ensures) c.new.ensures
    ∙ c.in_ok-number.ensures ∙ ap (number_of 7) c.as_bytes.ensures.value
