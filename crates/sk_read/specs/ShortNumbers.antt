-- Lines that are short numbers, and what shows them in a text: it is of digits and LFs, and never has more than
-- 14 digits in a row.
use Rattle.std.specs.Prelude.{◌≡◌, ◌≢◌, ◌⊎◌, ℕ, ◌+◌, ◌<◌, ◌≤◌, true, List, length, slice_index, All}
use Rattle.std.specs.Char.{is_ascii_digit}

abbrev pub IsDigit : ℕ → Type 0
IsDigit byte = is_ascii_digit byte ≡ true

-- at most 14 digits, and nothing else
abbrev pub IsShortNumber : List ℕ → Type 0
IsShortNumber line = All IsDigit line × (length line ≤ 14)

-- a text that has no CR
abbrev pub HasNoCr : List ℕ → Type 0
HasNoCr text = All (λ byte. byte ≢ 13) text

-- ---- how they are known

abbrev pub IsDigitOrLf : ℕ → Type 0
IsDigitOrLf byte = IsDigit byte ⊎ (byte ≡ 10)

-- none of 15 bytes from a place on is LF
abbrev pub IsLongAt : List ℕ → ℕ → Type 0
IsLongAt text at = (k : ℕ) → k < 15 → slice_index text (at + k) ≢ 10

-- from a place up to another a text is of digits and LFs, and has an LF among each 15 bytes in a row
pub record AreDense (text : List ℕ) (from to : ℕ) : Type 0 where
  pub bytes : (i : ℕ) → from ≤ i → i < to → IsDigitOrLf (slice_index text i)
  pub lfs : (i : ℕ) → from ≤ i → i + 15 ≤ to → ¬ IsLongAt text i
