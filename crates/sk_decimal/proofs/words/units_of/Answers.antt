use Rattle.std.proofs.Common.{ℕ, ◌+◌, ◌*◌, ◌/◌, ap, arith}
use Rattle.sk_decimal.specs.Decimal.{nearest}
use Rattle.sk_decimal.proofs.Numbers.{units_fit}
use Rattle.sk_decimal.proofs.words.units_of.Goals as goal

pub overflow_mul-result-2 : goal.overflow_mul-result-2
overflow_mul-result-2 c = omega (arith, units_fit c.args.digits c.args.n c.requires.digits c.requires.numerator, ap (λ (s : ℕ). 2 * c.args.n * s) c.scale_of.ensures)

pub overflow_add-result : goal.overflow_add-result
overflow_add-result c = omega (arith, units_fit c.args.digits c.args.n c.requires.digits c.requires.numerator, ap (λ (s : ℕ). 2 * c.args.n * s) c.scale_of.ensures)

pub returns : goal.returns
unfolding nearest
returns c = ap (λ (s : ℕ). (2 * c.args.n * s + c.args.d) / (2 * c.args.d)) c.scale_of.ensures
