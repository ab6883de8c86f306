-- Fractions as decimal numbers.
use Rattle.std.specs.Prelude.{ℕ, zero, suc, ◌+◌, ◌*◌, ◌/◌, ◌%◌, ◌^◌, ◌==◌, if◌then◌else◌, List, [], ◌∷◌, ◌++◌, codes, decimal}

-- the most digits after the point
abbrev pub most_digits : ℕ
most_digits = 6

-- the whole number nearest to n/d times a scale, and the greater of two that are as near
unfoldable pub nearest : ℕ → ℕ → ℕ → ℕ
nearest scale n d = (2 * n * scale + d) / (2 * d)

-- the last digits of a number, as many as the width
unfoldable pub last_digits : ℕ → ℕ → List ℕ
last_digits zero n = []
last_digits (suc width) n = last_digits width (n / 10) ++ (48 + n % 10) ∷ []

-- a whole number of units with a point before its last digits, of which there are this many
unfoldable pub pointed : ℕ → ℕ → List ℕ
pointed digits units =
    decimal (units / 10 ^ digits) ++ (if digits == 0 then [] else codes "." ++ last_digits digits units)

-- n/d, rounded to this many digits after the point
unfoldable pub decimal_of : ℕ → ℕ → ℕ → List ℕ
decimal_of digits n d = pointed digits (nearest (10 ^ digits) n d)
