-- Words of a part of a text, of which bytes after the part are cleared.
use Rattle.std.proofs.Common.{◌≡◌, ℕ, zero, suc, ◌+◌, ◌-◌, ◌*◌, ◌%◌, ◌<◌, ◌≤◌, ◌^◌, ◌&&◌, Bool, true, List, [], ◌∷◌, length, slice_index, slice_range, bit_and, min, refl, sym, ap, ◌∙◌, ⊎_elim, arith, eqb-true, nat_eq}
use Rattle.std.proofs.lemmas.Bool.{and_parts, cases_lt}
use Rattle.std.proofs.lemmas.Nat.{and_mask}
use Rattle.std.specs.Prelude.{bit_xor}
use Rattle.sk_model.specs.Murmur.{word_at, scrambled_first, scrambled_second, finished, murmur128_of}
use Rattle.sk_hash.proofs.Words.{hash_of_tail, inside_part, past_part, size_of_part}

-- whether a test holds at each number below another
every : (ℕ → Bool) → ℕ → Bool
every test zero = true
every test (suc n) = test n && every test n

-- the mask of a word's first n bytes
abbrev mask_of : ℕ → ℕ
mask_of n = 2 ^ (8 * n) - 1

abbrev masks : List ℕ
masks = 0 ∷ 0 ∷ 0 ∷ 0 ∷ 0 ∷ 0 ∷ 0 ∷ 0 ∷ 0 ∷ 0xff ∷ 0xffff ∷ 0xffffff ∷ 0xffffffff ∷ 0xffffffffff ∷ 0xffffffffffff ∷ 0xffffffffffffff
    ∷ 0xffffffffffffffff ∷ 0xffffffffffffffff ∷ 0xffffffffffffffff ∷ 0xffffffffffffffff ∷ 0xffffffffffffffff ∷ 0xffffffffffffffff ∷ 0xffffffffffffffff ∷ 0xffffffffffffffff ∷ []

every_below : (test : ℕ → Bool) (n : ℕ) → every test n ≡ true → (i : ℕ) → i < n → test i ≡ true
unfolding every
every_below test zero all i below = absurd (omega (arith, below))
every_below test (suc n) all i below = ⊎_elim
    (λ (less : i < n). every_below test n (and_parts (test n) (every test n) all).1 i less)
    (λ (most : n ≤ i). let same : n ≡ i = omega arith in ap test (sym same) ∙ (and_parts (test n) (every test n) all).0)
    (cases_lt i n)

mask_at : (i : ℕ) → i < 24 → slice_index masks i ≡ mask_of (min 8 (i - 8))
unfolding every
mask_at i below = eqb-true _ _ (every_below (λ j. nat_eq (slice_index masks j) (mask_of (min 8 (j - 8)))) 24 refl i below)

-- a word's first n bytes make the word of a part that has these alone
first_bytes : (text part : List ℕ) (at i n : ℕ) → n ≤ 8 → ((j : ℕ) → slice_index text j < 256)
    → ((j : ℕ) → j < n → slice_index part (i + j) ≡ slice_index text (at + j)) → ((j : ℕ) → n ≤ j → j < 8 → slice_index part (i + j) ≡ 0)
    → word_at text at % 2 ^ (8 * n) ≡ word_at part i
first_bytes text part at i zero few bytes same none =
    let here : i ≡ i + 0 = omega arith in
    omega (arith, ap (slice_index part) here ∙ none 0 (omega arith) (omega arith), none 1 (omega arith) (omega arith), none 2 (omega arith) (omega arith), none 3 (omega arith) (omega arith), none 4 (omega arith) (omega arith), none 5 (omega arith) (omega arith), none 6 (omega arith) (omega arith), none 7 (omega arith) (omega arith), bytes at, bytes (at + 1), bytes (at + 2), bytes (at + 3), bytes (at + 4), bytes (at + 5), bytes (at + 6), bytes (at + 7))
first_bytes text part at i (suc zero) few bytes same none =
    let here : i ≡ i + 0 = omega arith in
    let there : at + 0 ≡ at = omega arith in
    omega (arith, ap (slice_index part) here ∙ same 0 (omega arith) ∙ ap (slice_index text) there, none 1 (omega arith) (omega arith), none 2 (omega arith) (omega arith), none 3 (omega arith) (omega arith), none 4 (omega arith) (omega arith), none 5 (omega arith) (omega arith), none 6 (omega arith) (omega arith), none 7 (omega arith) (omega arith), bytes at, bytes (at + 1), bytes (at + 2), bytes (at + 3), bytes (at + 4), bytes (at + 5), bytes (at + 6), bytes (at + 7))
first_bytes text part at i (suc (suc zero)) few bytes same none =
    let here : i ≡ i + 0 = omega arith in
    let there : at + 0 ≡ at = omega arith in
    omega (arith, ap (slice_index part) here ∙ same 0 (omega arith) ∙ ap (slice_index text) there, same 1 (omega arith), none 2 (omega arith) (omega arith), none 3 (omega arith) (omega arith), none 4 (omega arith) (omega arith), none 5 (omega arith) (omega arith), none 6 (omega arith) (omega arith), none 7 (omega arith) (omega arith), bytes at, bytes (at + 1), bytes (at + 2), bytes (at + 3), bytes (at + 4), bytes (at + 5), bytes (at + 6), bytes (at + 7))
first_bytes text part at i (suc (suc (suc zero))) few bytes same none =
    let here : i ≡ i + 0 = omega arith in
    let there : at + 0 ≡ at = omega arith in
    omega (arith, ap (slice_index part) here ∙ same 0 (omega arith) ∙ ap (slice_index text) there, same 1 (omega arith), same 2 (omega arith), none 3 (omega arith) (omega arith), none 4 (omega arith) (omega arith), none 5 (omega arith) (omega arith), none 6 (omega arith) (omega arith), none 7 (omega arith) (omega arith), bytes at, bytes (at + 1), bytes (at + 2), bytes (at + 3), bytes (at + 4), bytes (at + 5), bytes (at + 6), bytes (at + 7))
first_bytes text part at i (suc (suc (suc (suc zero)))) few bytes same none =
    let here : i ≡ i + 0 = omega arith in
    let there : at + 0 ≡ at = omega arith in
    omega (arith, ap (slice_index part) here ∙ same 0 (omega arith) ∙ ap (slice_index text) there, same 1 (omega arith), same 2 (omega arith), same 3 (omega arith), none 4 (omega arith) (omega arith), none 5 (omega arith) (omega arith), none 6 (omega arith) (omega arith), none 7 (omega arith) (omega arith), bytes at, bytes (at + 1), bytes (at + 2), bytes (at + 3), bytes (at + 4), bytes (at + 5), bytes (at + 6), bytes (at + 7))
first_bytes text part at i (suc (suc (suc (suc (suc zero))))) few bytes same none =
    let here : i ≡ i + 0 = omega arith in
    let there : at + 0 ≡ at = omega arith in
    omega (arith, ap (slice_index part) here ∙ same 0 (omega arith) ∙ ap (slice_index text) there, same 1 (omega arith), same 2 (omega arith), same 3 (omega arith), same 4 (omega arith), none 5 (omega arith) (omega arith), none 6 (omega arith) (omega arith), none 7 (omega arith) (omega arith), bytes at, bytes (at + 1), bytes (at + 2), bytes (at + 3), bytes (at + 4), bytes (at + 5), bytes (at + 6), bytes (at + 7))
first_bytes text part at i (suc (suc (suc (suc (suc (suc zero)))))) few bytes same none =
    let here : i ≡ i + 0 = omega arith in
    let there : at + 0 ≡ at = omega arith in
    omega (arith, ap (slice_index part) here ∙ same 0 (omega arith) ∙ ap (slice_index text) there, same 1 (omega arith), same 2 (omega arith), same 3 (omega arith), same 4 (omega arith), same 5 (omega arith), none 6 (omega arith) (omega arith), none 7 (omega arith) (omega arith), bytes at, bytes (at + 1), bytes (at + 2), bytes (at + 3), bytes (at + 4), bytes (at + 5), bytes (at + 6), bytes (at + 7))
first_bytes text part at i (suc (suc (suc (suc (suc (suc (suc zero))))))) few bytes same none =
    let here : i ≡ i + 0 = omega arith in
    let there : at + 0 ≡ at = omega arith in
    omega (arith, ap (slice_index part) here ∙ same 0 (omega arith) ∙ ap (slice_index text) there, same 1 (omega arith), same 2 (omega arith), same 3 (omega arith), same 4 (omega arith), same 5 (omega arith), same 6 (omega arith), none 7 (omega arith) (omega arith), bytes at, bytes (at + 1), bytes (at + 2), bytes (at + 3), bytes (at + 4), bytes (at + 5), bytes (at + 6), bytes (at + 7))
first_bytes text part at i (suc (suc (suc (suc (suc (suc (suc (suc zero)))))))) few bytes same none =
    let here : i ≡ i + 0 = omega arith in
    let there : at + 0 ≡ at = omega arith in
    omega (arith, ap (slice_index part) here ∙ same 0 (omega arith) ∙ ap (slice_index text) there, same 1 (omega arith), same 2 (omega arith), same 3 (omega arith), same 4 (omega arith), same 5 (omega arith), same 6 (omega arith), same 7 (omega arith), bytes at, bytes (at + 1), bytes (at + 2), bytes (at + 3), bytes (at + 4), bytes (at + 5), bytes (at + 6), bytes (at + 7))
first_bytes text part at i (suc (suc (suc (suc (suc (suc (suc (suc (suc n))))))))) few bytes same none = absurd (omega (arith, few))

-- a word of the text, cleared after the part's end, is the part's word
cleared : (text : List ℕ) (from len i at m : ℕ) → ((j : ℕ) → slice_index text j < 256) → len < 16 → i ≤ 8 → at ≡ from + i → m ≡ len + 8 - i
    → bit_and (word_at text at) (slice_index masks m) ≡ word_at (slice_range text from (from + len)) i
cleared text from len i at m bytes short few place mask =
    let part : List ℕ = slice_range text from (from + len) in
    let n : ℕ = min 8 (m - 8) in
    ap (bit_and (word_at text at)) (mask_at m (omega arith))
    ∙ and_mask (word_at text at) (8 * n)
    ∙ first_bytes text part at i n (omega arith) bytes
    (λ j inside. inside_part text from len (i + j) (at + j) (omega (arith, inside)) (omega arith))
    (λ j past below. past_part text from len (i + j) (omega (arith, past, below)))

-- the hash of fewer bytes than a block has, from the words of the text around them
pub hash_of_short : (seed from len : ℕ) (text : List ℕ) → ((j : ℕ) → slice_index text j < 256) → len < 16 → from + 16 ≤ length text
    → murmur128_of seed (slice_range text from (from + len)) ≡ finished (bit_xor seed (scrambled_first (bit_and (word_at text from) (slice_index masks (len + 8)))), bit_xor seed (scrambled_second (bit_and (word_at text (from + 8)) (slice_index masks len)))) len
hash_of_short seed from len text bytes short room =
    let part : List ℕ = slice_range text from (from + len) in
    let size : length part ≡ len = size_of_part text from len (omega arith) in
    hash_of_tail seed part (omega (arith, size))
    ∙ ap (finished (bit_xor seed (scrambled_first (word_at part 0)), bit_xor seed (scrambled_second (word_at part 8)))) size
    ∙ ap (λ (k : ℕ). finished (bit_xor seed (scrambled_first k), bit_xor seed (scrambled_second (word_at part 8))) len) (sym (cleared text from len 0 from (len + 8) bytes short (omega arith) (omega arith) (omega arith)))
    ∙ ap (λ (k : ℕ). finished (bit_xor seed (scrambled_first (bit_and (word_at text from) (slice_index masks (len + 8)))), bit_xor seed (scrambled_second k)) len) (sym (cleared text from len 8 (from + 8) len bytes short (omega arith) (omega arith) (omega arith)))
