-- Words of a text, of which the bytes after a name are cleared.
use Rattle.std.proofs.Common.{◌≡◌, ℕ, zero, suc, ◌+◌, ◌-◌, ◌*◌, ◌%◌, ◌<◌, ◌≤◌, ◌^◌, List, [], ◌∷◌, length, length-take, length-drop, get_or, take, drop, slice_range, min, bit_and, refl, sym, ap, ◌∙◌, ⊎_elim, arith}
use Rattle.std.specs.Int.{w64, from_le_bytes, to_le_bytes}
use Rattle.std.proofs.lemmas.Bool.{cases_lt}
use Rattle.std.proofs.lemmas.List.{take-take, take_all, drop-drop, drop-take, get_or-take, get_or-drop, get_or_past}
use Rattle.std.proofs.lemmas.Nat.{and_mask, le_bytes_8}
use Rattle.sk_tenant.specs.declared.ends.Reach.{Reach}
use Rattle.sk_tenant.specs.Guesses.{AreEndsOf, IsReachOf}

module _ (a b c d e f g h : ℕ) (a' : a < 256) (b' : b < 256) (c' : c < 256) (d' : d < 256) (e' : e < 256) (f' : f < 256) (g' : g < 256) (h' : h < 256) where
  are_bytes : (i : ℕ) → get_or (a ∷ b ∷ c ∷ d ∷ e ∷ f ∷ g ∷ h ∷ []) i 0 < 256
  are_bytes zero = a'
  are_bytes (suc zero) = b'
  are_bytes (suc (suc zero)) = c'
  are_bytes (suc (suc (suc zero))) = d'
  are_bytes (suc (suc (suc (suc zero)))) = e'
  are_bytes (suc (suc (suc (suc (suc zero))))) = f'
  are_bytes (suc (suc (suc (suc (suc (suc zero)))))) = g'
  are_bytes (suc (suc (suc (suc (suc (suc (suc zero))))))) = h'
  are_bytes (suc (suc (suc (suc (suc (suc (suc (suc i)))))))) = omega arith

  -- the number has these bytes
  spelled : (n : ℕ) → n ≡ from_le_bytes w64 (a ∷ b ∷ c ∷ d ∷ e ∷ f ∷ g ∷ h ∷ []) → to_le_bytes w64 n ≡ a ∷ b ∷ c ∷ d ∷ e ∷ f ∷ g ∷ h ∷ []
  spelled n is = le_bytes_8 (a ∷ b ∷ c ∷ d ∷ e ∷ f ∷ g ∷ h ∷ []) n refl are_bytes is

-- the first bytes of a word stay if those after them are cleared
first_bytes : (a b c d e f g h : ℕ) → a < 256 → b < 256 → c < 256 → d < 256 → e < 256 → f < 256 → g < 256 → h < 256 → (n : ℕ) → n ≤ 8
    → take n (to_le_bytes w64 (from_le_bytes w64 (a ∷ b ∷ c ∷ d ∷ e ∷ f ∷ g ∷ h ∷ []) % 2 ^ (8 * n))) ≡ take n (a ∷ b ∷ c ∷ d ∷ e ∷ f ∷ g ∷ h ∷ [])
first_bytes a b c d e f g h a' b' c' d' e' f' g' h' zero few = refl
first_bytes a b c d e f g h a' b' c' d' e' f' g' h' (suc zero) few = ap (take 1) (spelled a 0 0 0 0 0 0 0 a' (omega arith) (omega arith) (omega arith) (omega arith) (omega arith) (omega arith) (omega arith) _ (omega (arith, a')))
first_bytes a b c d e f g h a' b' c' d' e' f' g' h' (suc (suc zero)) few = ap (take 2) (spelled a b 0 0 0 0 0 0 a' b' (omega arith) (omega arith) (omega arith) (omega arith) (omega arith) (omega arith) _ (omega (arith, a', b')))
first_bytes a b c d e f g h a' b' c' d' e' f' g' h' (suc (suc (suc zero))) few = ap (take 3) (spelled a b c 0 0 0 0 0 a' b' c' (omega arith) (omega arith) (omega arith) (omega arith) (omega arith) _ (omega (arith, a', b', c')))
first_bytes a b c d e f g h a' b' c' d' e' f' g' h' (suc (suc (suc (suc zero)))) few = ap (take 4) (spelled a b c d 0 0 0 0 a' b' c' d' (omega arith) (omega arith) (omega arith) (omega arith) _ (omega (arith, a', b', c', d')))
first_bytes a b c d e f g h a' b' c' d' e' f' g' h' (suc (suc (suc (suc (suc zero))))) few = ap (take 5) (spelled a b c d e 0 0 0 a' b' c' d' e' (omega arith) (omega arith) (omega arith) _ (omega (arith, a', b', c', d', e')))
first_bytes a b c d e f g h a' b' c' d' e' f' g' h' (suc (suc (suc (suc (suc (suc zero)))))) few = ap (take 6) (spelled a b c d e f 0 0 a' b' c' d' e' f' (omega arith) (omega arith) _ (omega (arith, a', b', c', d', e', f')))
first_bytes a b c d e f g h a' b' c' d' e' f' g' h' (suc (suc (suc (suc (suc (suc (suc zero))))))) few = ap (take 7) (spelled a b c d e f g 0 a' b' c' d' e' f' g' (omega arith) _ (omega (arith, a', b', c', d', e', f', g')))
first_bytes a b c d e f g h a' b' c' d' e' f' g' h' (suc (suc (suc (suc (suc (suc (suc (suc zero)))))))) few = ap (take 8) (spelled a b c d e f g h a' b' c' d' e' f' g' h' _ (omega (arith, a', b', c', d', e', f', g', h')))
first_bytes a b c d e f g h a' b' c' d' e' f' g' h' (suc (suc (suc (suc (suc (suc (suc (suc (suc n))))))))) few = absurd (omega (arith, few))

of_word : (word : List ℕ) (n : ℕ) → length word ≡ 8 → ((i : ℕ) → get_or word i 0 < 256) → n ≤ 8 → take n (to_le_bytes w64 (from_le_bytes w64 word % 2 ^ (8 * n))) ≡ take n word
of_word (a ∷ b ∷ c ∷ d ∷ e ∷ f ∷ g ∷ h ∷ []) n size bytes few = first_bytes a b c d e f g h (bytes 0) (bytes 1) (bytes 2) (bytes 3) (bytes 4) (bytes 5) (bytes 6) (bytes 7) n few
of_word [] n size bytes few = absurd (omega arith)
of_word (a ∷ []) n size bytes few = absurd (omega arith)
of_word (a ∷ b ∷ []) n size bytes few = absurd (omega arith)
of_word (a ∷ b ∷ c ∷ []) n size bytes few = absurd (omega arith)
of_word (a ∷ b ∷ c ∷ d ∷ []) n size bytes few = absurd (omega arith)
of_word (a ∷ b ∷ c ∷ d ∷ e ∷ []) n size bytes few = absurd (omega arith)
of_word (a ∷ b ∷ c ∷ d ∷ e ∷ f ∷ []) n size bytes few = absurd (omega arith)
of_word (a ∷ b ∷ c ∷ d ∷ e ∷ f ∷ g ∷ []) n size bytes few = absurd (omega arith)
of_word (a ∷ b ∷ c ∷ d ∷ e ∷ f ∷ g ∷ h ∷ x ∷ rest) n size bytes few = absurd (omega arith)

-- by a mask of the first n bytes
pub masked : (word : List ℕ) (x mask n : ℕ) → length word ≡ 8 → ((i : ℕ) → get_or word i 0 < 256) → x ≡ from_le_bytes w64 word → n ≤ 8 → mask ≡ 2 ^ (8 * n) - 1
    → take n (to_le_bytes w64 (bit_and x mask)) ≡ take n word
masked word x mask n size bytes is few by =
    let same : bit_and x mask ≡ from_le_bytes w64 word % 2 ^ (8 * n) = ap (bit_and x) by ∙ and_mask x (8 * n) ∙ ap (λ (y : ℕ). y % 2 ^ (8 * n)) is in
    ap (λ (y : ℕ). take n (to_le_bytes w64 y)) same ∙ of_word word n size bytes few

-- a word that lies in a text
module _ (text word : List ℕ) (at : ℕ) (within : at + 8 ≤ length text) (is : word ≡ take 8 (drop at text)) where
  pub word_size : length word ≡ 8
  word_size = omega (arith, ap length is, length-take 8 (drop at text), length-drop at text, within)

  pub word_bytes : ((i : ℕ) → get_or text i 0 < 256) → (i : ℕ) → get_or word i 0 < 256
  word_bytes bytes i = ⊎_elim
      (λ (inside : i < 8). omega (arith, bytes (at + i), ap (λ (l : List ℕ). get_or l i 0) is ∙ get_or-take 8 (drop at text) i 0 inside ∙ get_or-drop at text i 0))
      (λ (past : 8 ≤ i). omega (arith, get_or_past word i 0 (omega (arith, word_size, past))))
      (cases_lt i 8)

  -- its first bytes
  pub word_in : (n : ℕ) → n ≤ 8 → take n word ≡ slice_range text at (at + n)
  word_in n few =
      let size : (at + n) - at ≡ n = omega arith in
      ap (take n) is ∙ take-take n 8 (drop at text) few ∙ ap (λ (m : ℕ). take m (drop at text)) (sym size)

-- ends of a name that stands in a text, by where they lie
pub read_ends : (text : List ℕ) (at : ℕ) (reach : Reach) (first last : List ℕ) → IsReachOf reach.len reach → at + reach.len ≤ length text → at + 8 ≤ length text → length first ≡ 8 → length last ≡ 8
    → ((n : ℕ) → n ≤ 8 → reach.mask ≡ 2 ^ (8 * n) - 1 → take n first ≡ slice_range text at (at + n))
    → ((n : ℕ) → n ≤ 8 → reach.mask ≡ 2 ^ (8 * n) - 1 → take n last ≡ slice_range text (at + reach.tail) (at + reach.tail + n))
    → AreEndsOf (slice_range text at (at + reach.len)) (record { first = first; last = last; len = reach.len })
read_ends text at reach first last is within room first_size last_size first_is last_is = record {
  len = sym size;
  first = λ (many : 8 ≤ length name). sym (take_all 8 first (omega (arith, first_size))) ∙ first_is 8 (omega arith) (whole many) ∙ first_part many;
  last = λ (many : 8 ≤ length name). sym (take_all 8 last (omega (arith, last_size))) ∙ last_is 8 (omega arith) (whole many) ∙ last_part many;
  whole = λ (few : length name < 8). ap (λ (n : ℕ). take n first) size ∙ first_is len (omega (arith, size, few)) (is.mask ∙ ap (λ (n : ℕ). 2 ^ (8 * n) - 1) (let least : min 8 len ≡ len = omega (arith, size, few) in least));
}
  where
    len : ℕ
    len = reach.len

    name : List ℕ
    name = slice_range text at (at + len)

    size : length name ≡ len
    size = omega (arith, length-take ((at + len) - at) (drop at text), length-drop at text, within)

    whole : 8 ≤ length name → reach.mask ≡ 2 ^ (8 * 8) - 1
    whole many = is.mask ∙ ap (λ (n : ℕ). 2 ^ (8 * n) - 1) (let least : min 8 len ≡ 8 = omega (arith, size, many) in least)

    named : name ≡ take len (drop at text)
    named = let n : (at + len) - at ≡ len = omega arith in ap (λ (m : ℕ). take m (drop at text)) n

    first_part : 8 ≤ length name → slice_range text at (at + 8) ≡ take 8 name
    first_part many =
        let n : (at + 8) - at ≡ 8 = omega arith in
        ap (λ (m : ℕ). take m (drop at text)) n ∙ sym (take-take 8 len (drop at text) (omega (arith, size, many))) ∙ ap (take 8) (sym named)

    last_part : 8 ≤ length name → slice_range text (at + reach.tail) (at + reach.tail + 8) ≡ drop (length name - 8) name
    last_part many =
        let n : (at + reach.tail + 8) - (at + reach.tail) ≡ len - (len - 8) = omega (arith, size, many) in
        let tail : reach.tail ≡ len - 8 = is.tail in
        let all : (len - 8) + (len - (len - 8)) ≡ len = omega arith in
        ap (λ (m : ℕ). take m (drop (at + reach.tail) text)) n
        ∙ ap (λ (m : ℕ). take (len - (len - 8)) (drop (at + m) text)) tail
        ∙ ap (take (len - (len - 8))) (sym (drop-drop (len - 8) at text))
        ∙ sym (drop-take (len - 8) (len - (len - 8)) (drop at text))
        ∙ ap (λ (m : ℕ). drop (len - 8) (take m (drop at text))) all
        ∙ ap (drop (len - 8)) (sym named)
        ∙ ap (λ (m : ℕ). drop (m - 8) name) (sym size)
