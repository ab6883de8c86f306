use Rattle.std.proofs.Common.{refl}
use Rattle.std.specs.Fmt.{digits}
use Rattle.sk_model.specs.Numbers.{number_of, value_of}
use Rattle.sk_model.proofs.laws.numbers.numbers_worked.Goals as goal

pub returns : goal.returns
unfolding number_of value_of digits
returns c = record { greatest = refl; end = refl; greatest_raw = refl; end_raw = refl; zeros_raw = refl; too_many_raw = refl; zeros = refl; too_many = refl; empty = refl; sign = refl }
