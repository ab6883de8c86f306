-- Numbers as decimal digits.
use Rattle.std.specs.Prelude.{ℕ, ◌+◌, ◌-◌, ◌*◌, ◌&&◌, nat_lt, nat_le, if◌then◌else◌, List, length, fold, decimal, Option, Some, None}
use Rattle.std.specs.List.{list_all}
use Rattle.std.specs.Char.{is_ascii_digit}

-- the number that digits spell
unfoldable pub value_of : List ℕ → ℕ
value_of digits = fold (λ value digit. 10 * value + (digit - 48)) 0 digits

-- the number below an end that bytes spell: digits only, at least one and at most as many as the
-- greatest such number has
unfoldable pub number_of : ℕ → List ℕ → Option ℕ
number_of end bytes =
    if list_all is_ascii_digit bytes && nat_lt 0 (length bytes) && nat_le (length bytes) (length (decimal (end - 1))) && nat_lt (value_of bytes) end
    then Some (value_of bytes) else None
