-- What the value of an option spells.
use Rattle.std.specs.Prelude.{ℕ, ◌+◌, ◌==◌, nat_le, Bool, true, false, List, [], ◌∷◌, length, codes, if◌then◌else◌, bytes_eq, Option, Some, None, option_map, option_and_then}
use Rattle.std.specs.List.{slice_split}
use Rattle.sk_model.specs.Numbers.{number_of}

-- a word, as its bytes
abbrev pub Word : Type 0
Word = List ℕ

-- the number from low to high that a word spells
abbrev pub number_from : ℕ → ℕ → Word → Option ℕ
number_from low high word = option_and_then (λ n. if nat_le low n then Some n else None) (number_of (high + 1) word)

-- the numbers from low to high that words spell, each one
abbrev pub numbers_from : ℕ → ℕ → List Word → Option (List ℕ)
numbers_from low high [] = Some []
numbers_from low high (word ∷ words) = option_and_then (λ n. option_map (λ numbers. n ∷ numbers) (numbers_from low high words)) (number_from low high word)

-- the parts of a word between its commas
abbrev pub parts_of : Word → List Word
parts_of word = slice_split (λ byte. byte == 44) word

-- those of a word that is there
abbrev pub parts_in : Option Word → List Word
parts_in None = []
parts_in (Some word) = parts_of word

-- a number list: at most so many numbers from low to high, joined by commas
abbrev pub number_list : ℕ → ℕ → ℕ → Word → Option (List ℕ)
number_list most low high word = if nat_le (length (parts_of word)) most then numbers_from low high (parts_of word) else None

-- yes or no
abbrev pub yes_or_no : Word → Option Bool
yes_or_no word = if bytes_eq word (codes "yes") then Some true else if bytes_eq word (codes "no") then Some false else None
