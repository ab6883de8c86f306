use Rattle.sk_decimal.proofs.Estimates.{estimate_rounded}
use Rattle.sk_decimal.proofs.laws.estimates_are_rounded.Goals as goal

pub returns : goal.returns
returns c = λ digits n d front upper some lower. estimate_rounded n d upper some lower digits front
