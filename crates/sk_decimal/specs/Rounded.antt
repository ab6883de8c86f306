-- Texts in which a fraction at the end of a line stands as a rounded decimal number.
use Rattle.std.specs.Prelude.{ℕ, zero, suc, ◌-◌, ◌==◌, ◌&&◌, nat_lt, nat_le, if◌then◌else◌, List, [], ◌∷◌, ◌++◌, length, take, fold, codes, Option, None, Some}
use Rattle.std.specs.List.{list_all, before_first, after_first}
use Rattle.std.specs.Char.{is_ascii_digit}
use Rattle.sk_model.specs.Numbers.{value_of}
use Rattle.sk_decimal.specs.Decimal.{decimal_of}

-- the number that a word spells by at least one digit and at most this many
unfoldable pub short_number : ℕ → List ℕ → Option ℕ
short_number most word =
    if list_all is_ascii_digit word && nat_lt 0 (length word) && nat_le (length word) most then Some (value_of word) else None

-- a numerator and a denominator, if both are there and the denominator is not 0
abbrev pub fraction : Option ℕ → Option ℕ → Option (ℕ × ℕ)
fraction (Some n) (Some (suc d)) = Some (n, suc d)
fraction (Some n) (Some zero) = None
fraction (Some n) None = None
fraction None d = None

-- the fraction that a word is: at most 30 digits, a slash and at most 20 digits
unfoldable pub fraction_of : List ℕ → Option (ℕ × ℕ)
fraction_of word =
    let is_slash = λ (byte : ℕ). byte == 47 in
    fraction (short_number 30 (before_first is_slash word)) (short_number 20 (after_first is_slash word))

-- the last word of a line: each space begins a new one
unfoldable pub last_word : List ℕ → List ℕ
last_word line = fold (λ word byte. if byte == 32 then [] else word ++ byte ∷ []) [] line

-- what stands before it
abbrev pub before_word : List ℕ → List ℕ
before_word line = take (length line - length (last_word line)) line

-- a line with a fraction in place of its last word, if there is one
abbrev pub with_last : ℕ → List ℕ → Option (ℕ × ℕ) → List ℕ
with_last digits line None = line
with_last digits line (Some f) = before_word line ++ decimal_of digits f.0 f.1

-- lines of this many bytes and more stay as they are
abbrev pub longest_line : ℕ
longest_line = 65600

-- a line with its last word rounded, if that is a fraction
unfoldable pub rounded_line : ℕ → List ℕ → List ℕ
rounded_line digits line = if nat_lt (length line) longest_line then with_last digits line (fraction_of (last_word line)) else line

-- a text as far as it goes: its whole lines, rounded and each with its LF, and the piece after them
pub record Passage : Type 0 where
  pub lines : List ℕ
  pub piece : List ℕ

-- a byte more
abbrev pub grown : ℕ → Passage → ℕ → Passage
grown digits p byte = if byte == 10
    then record { lines = p.lines ++ rounded_line digits p.piece ++ codes "\n"; piece = [] }
    else record p { piece = p.piece ++ byte ∷ [] }

unfoldable pub passage : ℕ → List ℕ → Passage
passage digits text = fold (grown digits) (record { lines = []; piece = [] }) text

-- all of it
abbrev pub whole_of : Passage → List ℕ
whole_of p = p.lines ++ p.piece

-- what of it is sure whatever comes next: not the piece, if that may still be rounded
abbrev pub settled_of : Passage → List ℕ
settled_of p = p.lines ++ (if nat_le (length p.piece) longest_line then [] else p.piece)

-- a text with each line rounded that LF ends
abbrev pub rounded : ℕ → List ℕ → List ℕ
rounded digits text = whole_of (passage digits text)

-- what of that is sure whatever comes next
abbrev pub settled : ℕ → List ℕ → List ℕ
settled digits text = settled_of (passage digits text)
