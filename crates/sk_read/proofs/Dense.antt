-- Lemmas on texts of digits and LFs with an LF among each 15 bytes, and on their lines.
use Rattle.std.proofs.Common.{◌≡◌, ◌≢◌, ◌↔◌, ℕ, zero, suc, ◌+◌, ◌-◌, ◌*◌, ◌%◌, ◌^◌, ◌<◌, ◌≤◌, inl, inr, ⊎_elim, Bool, true, false, not, cond, ◌||◌, nat_eq, nat_lt, eqb, bit_and, Fits, w8, List, [], ◌∷◌, ◌++◌, All, length, take, drop, map, replicate, get_or, slice_index, refl, sym, ap, ◌∙◌, subst, arith, length-append, eqb-true, eq-eqb, true≢false, get_or-append-add, decimal, Some}
use Rattle.std.specs.Int.{bit_at}
use Rattle.std.specs.Char.{is_ascii_digit}
use Rattle.std.specs.Str.Lines.{strip_carriage_return}
use Rattle.std.specs.Simd.Lanes.{mask_l, top, zip2, chunk}
use Rattle.std.proofs.lemmas.Simd.{mask_l-mod, zip2_splat, zip2_splat_left, zip2_of_maps, map-map, length-chunk, get_or-chunk, none_from_empty_mask}
use Rattle.std.proofs.lemmas.Bool.{cases_lt, ne_eqb, agree_below_at, not-false}
use Rattle.std.proofs.lemmas.Nat.Bits.{bit_at-lt}
use Rattle.std.proofs.lemmas.List.{length-map, drop-replicate, get_or-replicate, get_or_past, get_or_at, get_or_append_left, get_or-append_right}
use Rattle.std.proofs.lemmas.List.Elements.{All-nil, All-cons, All-head, All-tail, All-from_get_or}
use Rattle.std.proofs.lemmas.List.Sums.{list_all-from_AllPass}
use Rattle.sk_model.specs.Lines.{lines_of}
use Rattle.sk_model.specs.Numbers.{value_of, number_of}
use Rattle.sk_model.proofs.Lines.{Cut, cut, first_line, lines_of_nothing}
use Rattle.sk_lines.specs.Cutter.{HasNoLf, IsOfWholeLines}
use Rattle.sk_read.proofs.Spelling.{few_digits}
use Rattle.sk_read.specs.ShortNumbers.{IsDigit, IsShortNumber, HasNoCr, IsDigitOrLf, AreDense}

-- ---- the lanes of a block

abbrev difference : ℕ → ℕ → ℕ
difference a b = (a + (256 - b)) % 256

abbrev is_less : ℕ → ℕ → ℕ
is_less a b = cond (nat_lt a b) 255 0

abbrev is_apart : ℕ → ℕ → ℕ
is_apart a b = cond (not (eqb a b)) 255 0

-- neither a digit nor LF
abbrev is_other : ℕ → Bool
is_other x = top 7 (bit_and (is_less 9 (difference x 48)) (is_apart x 10))

abbrev is_plain : ℕ → Bool
is_plain x = is_ascii_digit x || eqb x 10

other_or_plain : (x : ℕ) → x < 256 → is_other x ≡ not (is_plain x)
other_or_plain x fits = agree_below_at is_other (λ x. not (is_plain x)) 256 x refl fits

empty_mask : (p : ℕ → Bool) (xs : List ℕ) → ((k : ℕ) → k < length xs → p (get_or xs k 0) ≡ false) → mask_l (map p xs) ≡ 0
empty_mask p [] none = refl
empty_mask p (x ∷ xs) none =
    ap (λ (b : Bool). cond b 1 0 + 2 * mask_l (map p xs)) (none 0 (omega arith))
    ∙ ap (λ (m : ℕ). 0 + 2 * m) (empty_mask p xs (λ k below. none (suc k) (omega arith)))

plain_or : (x : ℕ) (a b : Bool) → is_ascii_digit x ≡ a → eqb x 10 ≡ b → (a || b) ≡ true → IsDigitOrLf x
plain_or x true b digit lf is = inl digit
plain_or x false true digit lf is = inr (eqb-true x 10 lf)
plain_or x false false digit lf is = absurd (true≢false (sym is))

or_right : (b : Bool) → (b || true) ≡ true
or_right true = refl
or_right false = refl

plain_by : (x : ℕ) → IsDigitOrLf x → is_plain x ≡ true
plain_by x (inl digit) = ap (λ (b : Bool). b || eqb x 10) digit
plain_by x (inr lf) = ap (λ (b : Bool). is_ascii_digit x || b) (eq-eqb x 10 lf) ∙ or_right (is_ascii_digit x)

module _ (text : List ℕ) (at : ℕ) (within : at + 64 ≤ length text) (fits : (i : ℕ) → Fits w8 (slice_index text i)) where
  abbrev block : List ℕ
  block = chunk at 64 text

  long : length block ≡ 64
  long = length-chunk at 64 text within

  plain_by_mask : mask_l (map is_other block) ≡ 0 → (k : ℕ) → k < 64 → IsDigitOrLf (slice_index text (at + k))
  plain_by_mask none k below =
      let x : ℕ = slice_index text (at + k) in
      plain_or x (is_ascii_digit x) (eqb x 10) refl refl
      (not-false (is_plain x) (sym (other_or_plain x (fits (at + k)).fits) ∙ none_from_empty_mask is_other text at 64 0 within none (at + k) (omega arith) (omega arith)))

  mask_by_plain : ((k : ℕ) → k < 64 → IsDigitOrLf (slice_index text (at + k))) → mask_l (map is_other block) ≡ 0
  mask_by_plain each = empty_mask is_other block (λ k below.
      let inside : k < 64 = omega (arith, long) in
      let x : ℕ = slice_index text (at + k) in
      ap is_other (get_or-chunk at 64 text k 0 inside) ∙ other_or_plain x (fits (at + k)).fits ∙ ap not (plain_by x (each k inside)))

  -- the test that is made of the block's lanes
  abbrev lanes : List ℕ
  lanes = zip2 bit_and (zip2 is_less (replicate 64 9) (zip2 difference block (replicate 64 48))) (zip2 is_apart block (replicate 64 10))

  above : zip2 is_less (replicate 64 9) (zip2 difference block (replicate 64 48)) ≡ map (λ x. is_less 9 (difference x 48)) block
  above =
      ap (λ (l : List ℕ). zip2 is_less (replicate 64 9) l) (zip2_splat difference block 64 48 long)
      ∙ zip2_splat_left is_less 9 64 (map (λ x. difference x 48) block) (length-map block (λ x. difference x 48) ∙ long)
      ∙ map-map (is_less 9) (λ x. difference x 48) block

  lanes_are : map (top 7) lanes ≡ map is_other block
  lanes_are =
      ap (map (top 7)) (zip2_of_maps bit_and (λ x. is_less 9 (difference x 48)) (λ x. is_apart x 10) block above (zip2_splat is_apart block 64 10 long))
      ∙ map-map (top 7) (λ x. bit_and (is_less 9 (difference x 48)) (is_apart x 10)) block

  mask_is : mask_l (map (top 7) lanes) % 2 ^ 64 ≡ mask_l (map is_other block)
  mask_is = ap (λ (l : List Bool). mask_l l % 2 ^ 64) lanes_are ∙ mask_l-mod (map is_other block) 64 (omega (arith, length-map block is_other, long))

  pub digits_or_lfs : (nat_eq (mask_l (map (top 7) lanes) % 2 ^ 64) 0 ≡ true) ↔ ((k : ℕ) → k < 64 → IsDigitOrLf (slice_index text (at + k)))
  digits_or_lfs = (
    λ none. plain_by_mask (sym mask_is ∙ eqb-true _ 0 none),
    λ each. eq-eqb _ 0 (mask_is ∙ mask_by_plain each),
  )

-- ---- a block

zero_bit : (n i : ℕ) → bit_at n i ≢ 1 → bit_at n i ≡ 0
zero_bit n i other = ⊎_elim (λ (low : bit_at n i < 1). omega arith) (λ (high : 1 ≤ bit_at n i). absurd (other (omega (arith, bit_at-lt n i)))) (cases_lt (bit_at n i) 1)

module _ (text : List ℕ) (at lfs : ℕ) (marks : (k : ℕ) → (bit_at lfs k ≡ 1) ↔ ((k < 64) × (slice_index text (at + k) ≡ 10))) where
  pub dense_block : ((k : ℕ) → k < 64 → IsDigitOrLf (slice_index text (at + k))) → ((i : ℕ) → i + 15 ≤ 64 → ¬ ((k : ℕ) → k < 15 → bit_at lfs (i + k) ≡ 0)) → AreDense text at (at + 64)
  dense_block each none = record {
    bytes = λ i from to. let place : at + (i - at) ≡ i = omega arith in subst (λ (n : ℕ). IsDigitOrLf (slice_index text n)) place (each (i - at) (omega arith));
    lfs = λ i from to is_long. none (i - at) (omega arith) (λ k below.
        let place : at + (i - at + k) ≡ i + k = omega arith in
        zero_bit lfs (i - at + k) (λ set. is_long k below (ap (slice_index text) (sym place) ∙ ((marks (i - at + k)).0 set).1)));
  }

  pub long_block : (i : ℕ) × (i + 15 ≤ 64) × ((k : ℕ) → k < 15 → bit_at lfs (i + k) ≡ 0) → ¬ AreDense text at (at + 64)
  long_block some dense = dense.lfs (at + some.0) (omega arith) (omega (arith, some.1)) (λ k below lf.
      let place : at + some.0 + k ≡ at + (some.0 + k) = omega arith in
      omega (arith, some.2 k below, (marks (some.0 + k)).1 (omega (arith, some.1), ap (slice_index text) (sym place) ∙ lf)))

-- ---- few bytes, with LFs after them

module _ (text block : List ℕ) (n : ℕ) (is : block ≡ text ++ replicate n 10) (size : length text + n ≡ 64) where
  front_byte : (i : ℕ) → i < length text → slice_index block i ≡ slice_index text i
  front_byte i below = ap (λ (l : List ℕ). slice_index l i) is ∙ get_or_append_left text (replicate n 10) 0 i below

  back_byte : (i : ℕ) → length text ≤ i → i < 64 → slice_index block i ≡ 10
  back_byte i from to =
      ap (λ (l : List ℕ). slice_index l i) is ∙ get_or-append_right text (replicate n 10) (length text) i 0 refl from
      ∙ get_or-replicate n (i - length text) 10 0 (omega arith)

  pub dense_padded : (AreDense block 0 64) ↔ (AreDense text 0 (length text))
  dense_padded = (
    λ dense. record {
      bytes = λ i from to. subst IsDigitOrLf (front_byte i to) (dense.bytes i from (omega arith));
      lfs = λ i from to is_long. dense.lfs i from (omega arith) (λ k below lf. is_long k below (sym (front_byte (i + k) (omega arith)) ∙ lf));
    },
    λ dense. record {
      bytes = λ i from to. ⊎_elim
          (λ (front : i < length text). subst IsDigitOrLf (sym (front_byte i front)) (dense.bytes i from front))
          (λ (back : length text ≤ i). inr (back_byte i back to))
          (cases_lt i (length text));
      lfs = λ i from to is_long. ⊎_elim
          (λ (front : i + 14 < length text). dense.lfs i from (omega arith) (λ k below lf. is_long k below (front_byte (i + k) (omega arith) ∙ lf)))
          (λ (back : length text ≤ i + 14). is_long 14 (omega arith) (back_byte (i + 14) back (omega arith)))
          (cases_lt (i + 14) (length text));
    },
  )

-- the first bytes of a block of LFs, written over
pub padded : (text copy : List ℕ) → copy ≡ text → length text < 64 → copy ++ drop (length text) (replicate 64 10) ≡ text ++ replicate (64 - length text) 10
padded text copy same few =
    let back = drop-replicate (length text) 64 10 in
    ap (λ (l : List ℕ). l ++ drop (length text) (replicate 64 10)) same ∙ ap (λ (l : List ℕ). text ++ l) back

-- ---- blocks that overlap

pub dense_part : (text : List ℕ) (from to low high : ℕ) → from ≤ low → high ≤ to → AreDense text from to → AreDense text low high
dense_part text from to low high first last dense = record {
  bytes = λ i above below. dense.bytes i (omega arith) (omega arith);
  lfs = λ i above below. dense.lfs i (omega arith) (omega arith);
}

dense_none : (text : List ℕ) (at : ℕ) → AreDense text at at
dense_none text at = record {
  bytes = λ i from to. absurd (omega arith);
  lfs = λ i from to. absurd (omega arith);
}

dense_joined : (text : List ℕ) (from mid meet to : ℕ) → mid + 14 ≤ meet → AreDense text from meet → AreDense text mid to → AreDense text from to
dense_joined text from mid meet to overlap front back = record {
  bytes = λ i above below. ⊎_elim
      (λ (early : i < meet). front.bytes i above early)
      (λ (late : meet ≤ i). back.bytes i (omega arith) below)
      (cases_lt i meet);
  lfs = λ i above below. ⊎_elim
      (λ (early : i < mid). front.lfs i above (omega arith))
      (λ (late : mid ≤ i). back.lfs i late below)
      (cases_lt i mid);
}

-- one block more, at or before the end of what is known
pub dense_more : (text : List ℕ) (at low : ℕ) → low ≤ at → (0 < at → AreDense text 0 (at + 14)) → AreDense text low (low + 64) → AreDense text 0 (low + 64)
dense_more text at low before front block = ⊎_elim
    (λ (some : 0 < at). dense_joined text 0 low (at + 14) (low + 64) (omega arith) (front some) block)
    (λ (none : at ≤ 0). let zero : low ≡ 0 = omega arith in dense_part text low (low + 64) 0 (low + 64) (omega arith) (omega arith) block)
    (cases_lt 0 at)

-- ---- lines

digit_is_no : (x y : ℕ) → is_ascii_digit y ≡ false → IsDigit x → x ≢ y
digit_is_no x y other digit same = true≢false (sym digit ∙ ap is_ascii_digit same ∙ other)

no_strip : (line : List ℕ) → slice_index line (length line - 1) ≢ 13 → strip_carriage_return line ≡ line
no_strip line other = ap (λ (b : Bool). cond b (take (length line - 1) line) line) (ne_eqb _ 13 other)

-- what stands after an LF in a text of whole lines
whole_behind : (piece rest front : List ℕ) → piece ++ 10 ∷ rest ≡ front ++ 10 ∷ [] → IsOfWholeLines rest
whole_behind [] rest [] is = inl (ap (drop 1) is)
whole_behind [] rest (y ∷ front) is = inr (front, ap (drop 1) is)
whole_behind (x ∷ piece) rest [] is = absurd (omega (arith, ap length is, length-append piece (10 ∷ rest)))
whole_behind (x ∷ piece) rest (y ∷ front) is = whole_behind piece rest front (ap (drop 1) is)

rest_is_whole : (piece rest : List ℕ) → IsOfWholeLines (piece ++ 10 ∷ rest) → IsOfWholeLines rest
rest_is_whole piece rest (inl none) = absurd (omega (arith, ap length none, length-append piece (10 ∷ rest)))
rest_is_whole piece rest (inr ends) = whole_behind piece rest ends.0 ends.1

-- a piece without LF is no text of whole lines, but where it is empty
no_whole_piece : (piece : List ℕ) → HasNoLf piece → IsOfWholeLines piece → piece ≡ []
no_whole_piece piece none (inl empty) = empty
no_whole_piece piece none (inr ends) =
    let last : get_or piece (length ends.0) 0 ≡ 10 = ap (λ (l : List ℕ). get_or l (length ends.0) 0) ends.1 ∙ get_or_at ends.0 10 [] 0 (length ends.0) refl in
    absurd (none (length ends.0) 0 (omega (arith, ap length ends.1, length-append ends.0 (10 ∷ []))) last)

module _ (piece rest : List ℕ) where
  abbrev text : List ℕ
  text = piece ++ 10 ∷ rest

  size : length text ≡ length piece + 1 + length rest
  size = omega (arith, length-append piece (10 ∷ rest))

  piece_byte : (i : ℕ) → i < length piece → slice_index text i ≡ slice_index piece i
  piece_byte i below = get_or_append_left piece (10 ∷ rest) 0 i below

  lf_byte : slice_index text (length piece) ≡ 10
  lf_byte = get_or_at piece 10 rest 0 (length piece) refl

  rest_byte : (i : ℕ) → slice_index text (length piece + 1 + i) ≡ slice_index rest i
  rest_byte i =
      let place : length piece + 1 + i ≡ length piece + suc i = omega arith in
      ap (slice_index text) place ∙ get_or-append-add piece (10 ∷ rest) (suc i) 0

  module _ (no_lf : HasNoLf piece) where
    piece_is_digits : AreDense text 0 (length text) → All IsDigit piece
    piece_is_digits dense = All-from_get_or IsDigit piece 0 (λ i below. ⊎_elim
        (λ (digit : IsDigit (get_or piece i 0)). digit)
        (λ (lf : get_or piece i 0 ≡ 10). absurd (no_lf i 0 below lf))
        (subst IsDigitOrLf (piece_byte i below) (dense.bytes i (omega arith) (omega (arith, size)))))

    piece_is_short : AreDense text 0 (length text) → length piece ≤ 14
    piece_is_short dense = ⊎_elim
        (λ (over : 14 < length piece). absurd (dense.lfs 0 (omega arith) (omega (arith, size)) (λ k below lf. let place : 0 + k ≡ k = omega arith in no_lf k 0 (omega arith) (sym (piece_byte k (omega arith)) ∙ ap (slice_index text) (sym place) ∙ lf))))
        (λ (fits : length piece ≤ 14). fits)
        (cases_lt 14 (length piece))

  rest_is_dense : AreDense text 0 (length text) → AreDense rest 0 (length rest)
  rest_is_dense dense = record {
    bytes = λ i from to. subst IsDigitOrLf (rest_byte i) (dense.bytes (length piece + 1 + i) (omega arith) (omega (arith, size)));
    lfs = λ i from to is_long. dense.lfs (length piece + 1 + i) (omega arith) (omega (arith, size)) (λ k below lf.
        let place : length piece + 1 + (i + k) ≡ length piece + 1 + i + k = omega arith in
        is_long k below (sym (rest_byte (i + k)) ∙ ap (slice_index text) place ∙ lf));
  }

  dense_by_line : IsShortNumber piece → AreDense rest 0 (length rest) → AreDense text 0 (length text)
  dense_by_line short dense = record {
    bytes = λ i from to. ⊎_elim
        (λ (early : i < length piece). inl (subst IsDigit (sym (piece_byte i early)) (short.0 i 0 early)))
        (λ (late : length piece ≤ i). ⊎_elim
        (λ (behind : length piece < i).
        let j : ℕ = i - (length piece + 1) in
        let place : length piece + 1 + j ≡ i = omega arith in
        subst (λ (n : ℕ). IsDigitOrLf (slice_index text n)) place (subst IsDigitOrLf (sym (rest_byte j)) (dense.bytes j (omega arith) (omega (arith, size)))))
        (λ (here : i ≤ length piece). let place : length piece ≡ i = omega arith in inr (ap (slice_index text) (sym place) ∙ lf_byte))
        (cases_lt (length piece) i))
        (cases_lt i (length piece));
    lfs = λ i from to is_long. ⊎_elim
        (λ (behind : length piece < i).
        let j : ℕ = i - (length piece + 1) in
        dense.lfs j (omega arith) (omega (arith, size)) (λ k below lf.
        let place : length piece + 1 + (j + k) ≡ i + k = omega arith in
        is_long k below (ap (slice_index text) (sym place) ∙ rest_byte (j + k) ∙ lf)))
        (λ (early : i ≤ length piece).
        let place : i + (length piece - i) ≡ length piece = omega arith in
        is_long (length piece - i) (omega (arith, short.1)) (ap (slice_index text) place ∙ lf_byte))
        (cases_lt (length piece) i);
  }

digits_unstripped : (line : List ℕ) → All IsDigit line → strip_carriage_return line ≡ line
digits_unstripped line digits = no_strip line (⊎_elim
    (λ (some : 0 < length line). digit_is_no _ 13 refl (digits (length line - 1) 0 (omega arith)))
    (λ (none : length line ≤ 0) is. omega (arith, is, get_or_past line (length line - 1) 0 (omega arith)))
    (cases_lt 0 (length line)))

no_cr_unstripped : (line : List ℕ) → HasNoCr line → strip_carriage_return line ≡ line
no_cr_unstripped line no_cr = no_strip line (⊎_elim
    (λ (some : 0 < length line). no_cr (length line - 1) 0 (omega arith))
    (λ (none : length line ≤ 0) is. omega (arith, is, get_or_past line (length line - 1) 0 (omega arith)))
    (cases_lt 0 (length line)))

-- a text of whole lines: it is empty, or whole lines come after its first LF
module _ (P : List ℕ → Type 0) (nothing : P []) (first : (piece rest : List ℕ) → HasNoLf piece → IsOfWholeLines rest → P rest → P (piece ++ 10 ∷ rest)) where
  by_cut : (text : List ℕ) (c : Cut text) → IsOfWholeLines text → ((rest : List ℕ) → length rest < length text → IsOfWholeLines rest → P rest) → P text
  by_cut text c whole less = ⊎_elim
      (λ (all : text ≡ c.piece). subst P (sym (all ∙ no_whole_piece c.piece c.no_lf (subst IsOfWholeLines all whole))) nothing)
      (λ (ends : (rest : List ℕ) × (text ≡ c.piece ++ 10 ∷ rest)).
      let rest_whole = rest_is_whole c.piece ends.0 (subst IsOfWholeLines ends.1 whole) in
      subst P (sym ends.1) (first c.piece ends.0 c.no_lf rest_whole (less ends.0 (omega (arith, ap length ends.1, size c.piece ends.0)) rest_whole)))
      c.follows

  by_lines : (fuel : ℕ) (text : List ℕ) → length text ≤ fuel → IsOfWholeLines text → P text
  by_lines zero text few whole = by_cut text (cut text) whole (λ rest less. absurd (omega arith))
  by_lines (suc fuel) text few whole = by_cut text (cut text) whole (λ rest less. by_lines fuel rest (omega arith))

all_of_none : All IsShortNumber (lines_of [])
all_of_none = subst (All IsShortNumber) (sym lines_of_nothing) (All-nil IsShortNumber)

pub short_lines : (text : List ℕ) → IsOfWholeLines text → AreDense text 0 (length text) → All IsShortNumber (lines_of text)
short_lines text whole = by_lines (λ text. AreDense text 0 (length text) → All IsShortNumber (lines_of text)) (λ _. all_of_none)
    (λ piece rest no_lf _ later dense.
    let digits = piece_is_digits piece rest no_lf dense in
    let is : lines_of (piece ++ 10 ∷ rest) ≡ piece ∷ lines_of rest = first_line piece rest no_lf ∙ ap (λ (line : List ℕ). line ∷ lines_of rest) (digits_unstripped piece digits) in
    subst (All IsShortNumber) (sym is) (All-cons IsShortNumber piece (lines_of rest) (digits, piece_is_short piece rest no_lf dense) (later (rest_is_dense piece rest dense))))
    (length text) text (omega arith) whole

no_cr_at_first : (piece rest : List ℕ) → HasNoCr (piece ++ 10 ∷ rest) → HasNoCr piece
no_cr_at_first piece rest none k d below is = none k d (omega (arith, size piece rest)) (get_or_append_left piece (10 ∷ rest) d k below ∙ is)

no_cr_behind : (piece rest : List ℕ) → HasNoCr (piece ++ 10 ∷ rest) → HasNoCr rest
no_cr_behind piece rest none k d below is = none (length piece + suc k) d (omega (arith, size piece rest)) (get_or-append-add piece (10 ∷ rest) (suc k) d ∙ is)

pub dense_lines : (text : List ℕ) → IsOfWholeLines text → All IsShortNumber (lines_of text) → HasNoCr text → AreDense text 0 (length text)
dense_lines text whole = by_lines (λ text. All IsShortNumber (lines_of text) → HasNoCr text → AreDense text 0 (length text)) (λ _ _. dense_none [] 0)
    (λ piece rest no_lf _ later short no_cr.
    let is : lines_of (piece ++ 10 ∷ rest) ≡ piece ∷ lines_of rest = first_line piece rest no_lf ∙ ap (λ (line : List ℕ). line ∷ lines_of rest) (no_cr_unstripped piece (no_cr_at_first piece rest no_cr)) in
    let both : All IsShortNumber (piece ∷ lines_of rest) = subst (All IsShortNumber) is short in
    dense_by_line piece rest (All-head IsShortNumber piece (lines_of rest) both) (later (All-tail IsShortNumber piece (lines_of rest) both) (no_cr_behind piece rest no_cr)))
    (length text) text (omega arith) whole

-- ---- numbers

-- a short number that is not empty is a number below an end, where any 14 digits are
pub short_number : (end : ℕ) (line : List ℕ) → 10 ^ 14 ≤ end → 14 ≤ length (decimal (end - 1)) → 0 < length line → IsShortNumber line → Some (value_of line) ≡ number_of end line
short_number end line high long some short = few_digits end 14 line high long some short.1 (list_all-from_AllPass is_ascii_digit line short.0)
