-- How many digits a word asks for.
use Rattle.std.proofs.Common.{◌≡◌, ℕ, ◌<◌, Option, Some, None, option_map, MatchOption, ap, arith}
use Rattle.sk_decimal.specs.Decimal.{most_digits}
use Rattle.sk_decimal.specs.declared.places.Digits.{Digits}

pub counted : (found : Option Digits) (n : ℕ) → n < 7 → MatchOption found (most_digits < n) (λ digits. digits.count ≡ n)
    → option_map (λ (digits : Digits). digits.count) found ≡ Some n
counted None n few over = absurd (omega (arith, few, over))
counted (Some digits) n few is = ap Some is
