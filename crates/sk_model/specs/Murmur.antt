-- MurmurHash3_x64_128, after its public reference code (Appleby, SMHasher), as a function on lists. A word is a number
-- below 2 ^ 64, a text is a list of bytes, and a pair of words is the state (h1, h2).
use Rattle.std.specs.Prelude.{ℕ, zero, suc, ◌+◌, ◌*◌, ◌/◌, ◌%◌, ◌^◌, List, [], ◌∷◌, length, drop, slice_index, bit_xor, max}
use Rattle.std.specs.Int.{w64, rotate_left, from_le_bytes}
use Rattle.sk_model.specs.Width.{hash_cut}

-- the sum and the product of two words, with what does not fit dropped
abbrev pub add : ℕ → ℕ → ℕ
add x y = (x + y) % 2 ^ 64

abbrev pub mul : ℕ → ℕ → ℕ
mul x y = x * y % 2 ^ 64

-- the word at byte i of a text, low byte first; bytes past the end count as 0
abbrev pub word_at : List ℕ → ℕ → ℕ
word_at bytes i = from_le_bytes w64
    (slice_index bytes i ∷ slice_index bytes (i + 1) ∷ slice_index bytes (i + 2) ∷ slice_index bytes (i + 3)
    ∷ slice_index bytes (i + 4) ∷ slice_index bytes (i + 5) ∷ slice_index bytes (i + 6) ∷ slice_index bytes (i + 7) ∷ [])

-- the constants of the reference code
abbrev pub c1 : ℕ
c1 = 0x87c37b91114253d5

abbrev pub c2 : ℕ
c2 = 0x4cf5ad432745937f

-- the first and the second word of a block, as they go into h1 and h2
unfoldable pub scrambled_first : ℕ → ℕ
scrambled_first k = mul (rotate_left w64 (mul k c1) 31) c2

unfoldable pub scrambled_second : ℕ → ℕ
scrambled_second k = mul (rotate_left w64 (mul k c2) 33) c1

-- the state after a block of two words
unfoldable pub after_block : ℕ × ℕ → ℕ → ℕ → ℕ × ℕ
after_block h k1 k2 =
    let h1 = add (mul (add (rotate_left w64 (bit_xor h.0 (scrambled_first k1)) 27) h.1) 5) 0x52dce729 in
    (h1, add (mul (add (rotate_left w64 (bit_xor h.1 (scrambled_second k2)) 31) h1) 5) 0x38495ab5)

-- the state after the first n blocks of 16 bytes of a text, from the seed
unfoldable pub after_blocks : ℕ → List ℕ → ℕ → ℕ × ℕ
after_blocks seed bytes zero = (seed, seed)
after_blocks seed bytes (suc n) = after_block (after_blocks seed bytes n) (word_at bytes (16 * n)) (word_at bytes (16 * n + 8))

-- the state with the tail, of fewer than 16 bytes, mixed in; a half of it that is empty is the
-- word 0, which changes nothing
unfoldable pub with_tail : ℕ × ℕ → List ℕ → ℕ × ℕ
with_tail h tail = (bit_xor h.0 (scrambled_first (word_at tail 0)), bit_xor h.1 (scrambled_second (word_at tail 8)))

-- the reference code's last mixing of a word
unfoldable pub finished_word : ℕ → ℕ
finished_word k =
    let k' = mul (bit_xor k (k / 2 ^ 33)) 0xff51afd7ed558ccd in
    let k'' = mul (bit_xor k' (k' / 2 ^ 33)) 0xc4ceb9fe1a85ec53 in
    bit_xor k'' (k'' / 2 ^ 33)

-- h1 with h2 added to it, and then h2 with h1 added
abbrev pub crossed : ℕ × ℕ → ℕ × ℕ
crossed h = (add h.0 h.1, add h.1 (add h.0 h.1))

-- the two halves, from the state and the text's length
unfoldable pub finished : ℕ × ℕ → ℕ → ℕ × ℕ
finished h n =
    let sums = crossed (bit_xor h.0 (n % 2 ^ 64), bit_xor h.1 (n % 2 ^ 64)) in
    crossed (finished_word sums.0, finished_word sums.1)

-- the two halves of a text's hash
unfoldable pub murmur128_of : ℕ → List ℕ → ℕ × ℕ
murmur128_of seed bytes =
    let blocks = length bytes / 16 in
    finished (with_tail (after_blocks seed bytes blocks) (drop (16 * blocks) bytes)) (length bytes)

-- the hash by which items are distinguished: the upper bits of the first half, or 1 if they are 0
unfoldable pub hash_of : ℕ → List ℕ → ℕ
hash_of seed bytes = max 1 ((murmur128_of seed bytes).0 / hash_cut)

-- the upper 48 bits of the first half
unfoldable pub hash48_of : ℕ → List ℕ → ℕ
hash48_of seed bytes = (murmur128_of seed bytes).0 / 2 ^ 16
