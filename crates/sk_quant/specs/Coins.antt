-- The coins of a key.
use Rattle.std.specs.Prelude.{ℕ, ◌%◌, List, ◌++◌, replicate}
use Rattle.std.specs.Int.{w64, to_le_bytes}
use Rattle.rand_chacha.specs.ChaCha.{ChaCha, word_at, of_seed}

-- the seed of 32 bytes: the key's eight, the lowest first, and 24 zeros
abbrev pub seed_of_key : ℕ → List ℕ
seed_of_key key = to_le_bytes w64 key ++ replicate 24 0

-- ChaCha with 8 rounds from that seed, with this many words taken
abbrev pub words_of_key : ℕ → ℕ → ChaCha
words_of_key key taken = record (of_seed (seed_of_key key)) { word_pos = taken }

-- the coin at a place: the lowest bit of that word, both counted from 0
unfoldable pub coin_of : ℕ → ℕ → ℕ
coin_of key place =
    let words = words_of_key key place in
    word_at 4 words.key words.stream words.word_pos % 2

-- what contracts see of coins: whose they are, and how many were taken
pub record Coins : Type 0 where
  pub key : ℕ
  pub taken : ℕ
