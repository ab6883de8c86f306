use Rattle.std.proofs.Common.{◌+◌, ◌<◌, ℕ, Option, sym, subst, arith, ◌∙◌}
use Rattle.std.specs.Option.{IfSome}
use Rattle.sk_model.proofs.Numbers.{number_below}
use Rattle.sk_cli.proofs.values.number_from.Goals as goal

pub returns-then-low-number-clause-within : goal.returns-then-low-number-clause-within
returns-then-low-number-clause-within c =
    let below : c.in_ok-number.number < c.args.high + 1 =
    subst (λ (o : Option ℕ). IfSome o (λ n. n < c.args.high + 1)) (sym c.read_number.ensures ∙ c.in_ok-number.was) (number_below (c.args.high + 1) c.args.word.now) in
    (c.if-low-number.true, omega (arith, below))
