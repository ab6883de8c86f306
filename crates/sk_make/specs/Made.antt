-- The text that is made of a key: numbers, a line each.
use Rattle.std.specs.Prelude.{ℕ, ◌+◌, ◌*◌, ◌/◌, ◌^◌, List, ◌++◌, map, flat_map, codes, decimal}
use Rattle.std.specs.List.{range_with_len}
use Rattle.rand_chacha.specs.ChaCha.{word_at}
use Rattle.sk_quant.specs.Coins.{words_of_key}

-- the word at a place among the words of a key, both counted from 0
unfoldable pub word_of : ℕ → ℕ → ℕ
word_of key place =
    let words = words_of_key key place in
    word_at 4 words.key words.stream words.word_pos

-- number j of a key, counted from 0: word 2j above the upper half of word 2j + 1
unfoldable pub made_number : ℕ → ℕ → ℕ
made_number key j = word_of key (2 * j) * 2 ^ 16 + word_of key (2 * j + 1) / 2 ^ 16

-- each number is below this
abbrev pub made_end : ℕ
made_end = 2 ^ 48

-- the line of a number
abbrev pub line_of : ℕ → List ℕ
line_of number = decimal number ++ codes "\n"

-- so many numbers of a key, from number j on
unfoldable pub numbers_from : ℕ → ℕ → ℕ → List ℕ
numbers_from key j n = map (made_number key) (range_with_len j n)

-- the first n numbers of a key
abbrev pub made_numbers : ℕ → ℕ → List ℕ
made_numbers n key = numbers_from key 0 n

-- their items, each one more than its number
abbrev pub made_items : ℕ → ℕ → List ℕ
made_items n key = map (λ number. number + 1) (made_numbers n key)

-- numbers as a text, a line each
unfoldable pub text_of : List ℕ → List ℕ
text_of numbers = flat_map line_of numbers

-- the text of the first n numbers of a key
abbrev pub made_text : ℕ → ℕ → List ℕ
made_text n key = text_of (made_numbers n key)

-- a text is made of at most so many numbers
abbrev pub most_made : ℕ
most_made = 10000000

-- what contracts see of the numbers of a key: whose they are, and the place of the next one
pub record Turn : Type 0 where
  pub key : ℕ
  pub next : ℕ
