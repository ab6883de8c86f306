-- Words that are read in parts, and the halves of a tail that are left out.
use Rattle.std.proofs.Common.{◌≡◌, ℕ, ◌+◌, ◌-◌, ◌*◌, ◌/◌, ◌<◌, ◌≤◌, ◌^◌, List, length, length-drop, length-take, take, drop, slice_index, slice_range, sym, ap, ◌∙◌, arith}
use Rattle.std.proofs.lemmas.List.{get_or-take, get_or-drop, get_or_past}
use Rattle.std.specs.Int.{w16, w32, from_le_bytes}
use Rattle.std.specs.Int.Bits.{xor_zero_r}
use Rattle.std.specs.Prelude.{bit_xor}
use Rattle.sk_model.specs.Murmur.{word_at, scrambled_first, scrambled_second, after_block, after_blocks, with_tail, finished, murmur128_of}

-- a word's first bytes, and the word that the others make
pub word_of_pair : (xs : List ℕ) → length xs < 4 → 2 ≤ length xs → word_at xs 0 ≡ from_le_bytes w16 (take 2 xs) + word_at (drop 2 xs) 0 * 2 ^ 16
word_of_pair xs below long = simp get_or-drop (omega (arith, get_or-take 2 xs 0 0, get_or-take 2 xs 1 0, get_or_past xs 8 0, get_or_past xs 9 0))

pub word_of_four : (xs : List ℕ) → length xs < 8 → 4 ≤ length xs → word_at xs 0 ≡ from_le_bytes w32 (take 4 xs) + word_at (drop 4 xs) 0 * 2 ^ 32
word_of_four xs below long = simp get_or-drop
    (omega (arith, get_or-take 4 xs 0 0, get_or-take 4 xs 1 0, get_or-take 4 xs 2 0, get_or-take 4 xs 3 0, get_or_past xs 8 0, get_or_past xs 9 0, get_or_past xs 10 0, get_or_past xs 11 0))

-- a word past the end is 0, and mixing it in changes nothing
word_past : (xs : List ℕ) (i : ℕ) → length xs ≤ i → word_at xs i ≡ 0
word_past xs i past = omega (arith, get_or_past xs i 0, get_or_past xs (i + 1) 0, get_or_past xs (i + 2) 0, get_or_past xs (i + 3) 0, get_or_past xs (i + 4) 0, get_or_past xs (i + 5) 0, get_or_past xs (i + 6) 0, get_or_past xs (i + 7) 0)

xor_first_zero : (h : ℕ) → bit_xor h (scrambled_first 0) ≡ h
unfolding scrambled_first
xor_first_zero h = xor_zero_r h

xor_second_zero : (h : ℕ) → bit_xor h (scrambled_second 0) ≡ h
unfolding scrambled_second
xor_second_zero h = xor_zero_r h

pub without_second : (h : ℕ × ℕ) (tail : List ℕ) → length tail ≤ 8 → with_tail h tail ≡ (bit_xor h.0 (scrambled_first (word_at tail 0)), h.1)
unfolding with_tail
without_second h tail short =
    ap (λ k. (bit_xor h.0 (scrambled_first (word_at tail 0)), bit_xor h.1 (scrambled_second k))) (word_past tail 8 short)
    ∙ ap (λ h2. (bit_xor h.0 (scrambled_first (word_at tail 0)), h2)) (xor_second_zero h.1)

pub without_tail : (h : ℕ × ℕ) (tail : List ℕ) → length tail ≡ 0 → with_tail h tail ≡ h
without_tail h tail none =
    without_second h tail (omega arith)
    ∙ ap (λ k. (bit_xor h.0 (scrambled_first k), h.1)) (word_past tail 0 (omega arith))
    ∙ ap (λ h1. (h1, h.1)) (xor_first_zero h.0)

-- the hash of one whole block
pub hash_of_block : (seed : ℕ) (bytes : List ℕ) → length bytes ≡ 16 → murmur128_of seed bytes ≡ finished (after_block (seed, seed) (word_at bytes 0) (word_at bytes 8)) 16
unfolding murmur128_of after_blocks
hash_of_block seed bytes size =
    ap (λ (n : ℕ). finished (with_tail (after_blocks seed bytes (n / 16)) (drop (16 * (n / 16)) bytes)) n) size
    ∙ ap (λ (h : ℕ × ℕ). finished h 16) (without_tail (after_blocks seed bytes 1) (drop 16 bytes) (omega (arith, length-drop 16 bytes, size)))

-- the hash of fewer bytes than a block has
pub hash_of_tail : (seed : ℕ) (bytes : List ℕ) → length bytes < 16
    → murmur128_of seed bytes ≡ finished (bit_xor seed (scrambled_first (word_at bytes 0)), bit_xor seed (scrambled_second (word_at bytes 8))) (length bytes)
unfolding murmur128_of after_blocks with_tail
hash_of_tail seed bytes short =
    let none : length bytes / 16 ≡ 0 = omega (arith, short) in
    ap (λ (n : ℕ). finished (with_tail (after_blocks seed bytes n) (drop (16 * n) bytes)) (length bytes)) none

-- a byte of a part of a text, and those after the part
pub inside_part : (text : List ℕ) (from len k at : ℕ) → k < len → at ≡ from + k → slice_index (slice_range text from (from + len)) k ≡ slice_index text at
inside_part text from len k at inside same =
    get_or-take (from + len - from) (drop from text) k 0 (omega arith) ∙ get_or-drop from text k 0 ∙ ap (slice_index text) (sym same)

pub past_part : (text : List ℕ) (from len k : ℕ) → len ≤ k → slice_index (slice_range text from (from + len)) k ≡ 0
past_part text from len k past = get_or_past (slice_range text from (from + len)) k 0 (omega (arith, past, length-take (from + len - from) (drop from text)))

pub size_of_part : (text : List ℕ) (from len : ℕ) → from + len ≤ length text → length (slice_range text from (from + len)) ≡ len
size_of_part text from len within = omega (arith, within, length-take (from + len - from) (drop from text), length-drop from text)

-- a word of a part
word_inside : (text : List ℕ) (from n i at : ℕ) → i + 8 ≤ n → at ≡ from + i → word_at (slice_range text from (from + n)) i ≡ word_at text at
word_inside text from n i at inside same = omega (
  arith,
  inside_part text from n i at (omega arith) same,
  inside_part text from n (i + 1) (at + 1) (omega arith) (omega arith),
  inside_part text from n (i + 2) (at + 2) (omega arith) (omega arith),
  inside_part text from n (i + 3) (at + 3) (omega arith) (omega arith),
  inside_part text from n (i + 4) (at + 4) (omega arith) (omega arith),
  inside_part text from n (i + 5) (at + 5) (omega arith) (omega arith),
  inside_part text from n (i + 6) (at + 6) (omega arith) (omega arith),
  inside_part text from n (i + 7) (at + 7) (omega arith) (omega arith),
)

pub hash_of_block_at : (seed : ℕ) (text : List ℕ) (from : ℕ) → from + 16 ≤ length text
    → murmur128_of seed (slice_range text from (from + 16)) ≡ finished (after_block (seed, seed) (word_at text from) (word_at text (from + 8))) 16
hash_of_block_at seed text from within =
    let block : List ℕ = slice_range text from (from + 16) in
    hash_of_block seed block (size_of_part text from 16 within)
    ∙ ap (λ (k : ℕ). finished (after_block (seed, seed) k (word_at block 8)) 16) (word_inside text from 16 0 from (omega arith) (omega arith))
    ∙ ap (λ (k : ℕ). finished (after_block (seed, seed) (word_at text from) k) 16) (word_inside text from 16 8 (from + 8) (omega arith) (omega arith))
