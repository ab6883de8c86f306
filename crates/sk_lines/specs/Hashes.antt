-- Hashes as text.
use Rattle.std.specs.Prelude.{ℕ, zero, suc, ◌+◌, ◌/◌, ◌%◌, nat_lt, if◌then◌else◌, List, [], ◌∷◌, ◌++◌, codes}
use Rattle.sk_model.specs.Width.{item_digits}

-- a hexadecimal digit, lower case
abbrev pub hex_digit : ℕ → ℕ
hex_digit digit = if nat_lt digit 10 then 48 + digit else 87 + digit

-- the last digits of a number in base 16, as many as the width
unfoldable pub hex : ℕ → ℕ → List ℕ
hex zero n = []
hex (suc width) n = hex width (n / 16) ++ hex_digit (n % 16) ∷ []

-- the digits of a hash
abbrev pub hash_digits : ℕ → List ℕ
hash_digits hash = hex item_digits hash

-- the line of a hash
abbrev pub hash_line : ℕ → List ℕ
hash_line hash = hash_digits hash ++ codes "\n"
