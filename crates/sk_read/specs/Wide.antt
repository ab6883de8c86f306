-- Numbers below a base as the digits of another.
use Rattle.std.specs.Prelude.{◌≡◌, ℕ, ◌+◌, ◌-◌, ◌*◌, ◌%◌, ◌<◌, if◌then◌else◌, List, [], ◌∷◌, fold, length, slice_index, Option, Some, None}
use Rattle.std.specs.List.{list_all}
use Rattle.std.specs.Char.{is_ascii_digit}
use Rattle.sk_model.specs.Numbers.{value_of}

-- the number that bytes spell if they are digits
abbrev pub spelled : List ℕ → Option ℕ
spelled bytes = if list_all is_ascii_digit bytes then Some (value_of bytes) else None

-- numbers below a base, two and two as one
unfoldable pub pairs : ℕ → List ℕ → List ℕ
pairs base (a ∷ b ∷ rest) = (base * a + b) ∷ pairs base rest
pairs base (a ∷ []) = []
pairs base [] = []

-- the number that numbers below a base make
unfoldable pub joined : ℕ → List ℕ → ℕ
joined base numbers = fold (λ value number. base * value + number) 0 numbers

-- 16 lanes end in the bytes of a line, each less the first digit, and are 0 before
pub record EndIn (lanes text : List ℕ) (from to : ℕ) : Type 0 where
  pub wide : length lanes ≡ 16
  pub front : (k : ℕ) → k + (to - from) < 16 → slice_index lanes k ≡ 0
  pub back : (k : ℕ) → k < to - from → slice_index lanes (16 - (to - from) + k) ≡ (slice_index text (from + k) + 208) % 256
