-- Lemmas on the lanes of a block: what stands before a line is 0, and then come its bytes less the first digit.
use Rattle.std.proofs.Common.{◌≡◌, ℕ, zero, suc, ◌+◌, ◌-◌, ◌*◌, ◌%◌, ◌^◌, ◌<◌, ◌≤◌, ◌&&◌, Bool, true, false, cond, bit_and, bit_or, List, [], ◌∷◌, ◌++◌, length, take, drop, take-add, map, replicate, get_or, slice_index, sym, refl, ap, ◌∙◌, arith, nat_eq, nat_lt, nat_le, ⊎_elim, take_all, Some, None, Fits, w8, true≢false, lt-ltb, le-ltb, le-leb}
use borrow.Author.Tests.{lt-leb, ne_eqb}
use Rattle.std.proofs.Math.ListN.{get_or-map}
use Rattle.std.specs.List.{list_all, slice_range}
use Rattle.std.specs.Char.{is_ascii_digit}
use Rattle.std.specs.Simd.Lanes.{Each1, top, sel_l, fold_l, zip2, chunk}
use Rattle.std.specs.Int.Bits.{and_zero_r, or_zero_r, or_add_and}
use Rattle.std.proofs.lemmas.Nat.{and_mask, and_le_l}
use Rattle.std.proofs.lemmas.Simd.{Each1-get_or, zip2_splat, length-zip2, get_or-zip2, length-chunk, get_or-chunk}
use Rattle.std.proofs.lemmas.Bool.{cases_Bool, cases_lt, leb-true, and_parts}
use Rattle.std.proofs.lemmas.List.{drop-drop, length-map, get_or_past, get_or_default, get_or_append_left, get_or-append_right, length-replicate, get_or-replicate}
use Rattle.std.proofs.lemmas.List.Folds.{list_all_at, list_all-append}
use Rattle.std.proofs.lemmas.List.Sums.{fold_more}
use Rattle.sk_model.specs.Numbers.{value_of}
use Rattle.sk_read.specs.Wide.{EndIn, joined, spelled}
use Rattle.sk_lines.proofs.Digits.{value_of_none, value_of_more, value_below, ten_power_rises, digit_at, digit_is_high}
use Rattle.sk_read.proofs.Spelling.{value_of_parts, spelled_by_digits, spelled_by_other}

-- ---- whether all lanes are digits

abbrev is_small : ℕ → Bool
is_small y = nat_le y 9

-- by how much a lane is above 9
abbrev excess : ℕ → ℕ
excess y = (cond (top 7 (cond (nat_lt y 9) 255 0)) 9 y + (256 - 9)) % 256

abbrev excesses : ℕ → List ℕ → List ℕ
excesses n ys = zip2 (λ a b. (a + (256 - b)) % 256) (sel_l (map (top 7) (zip2 (λ a b. cond (nat_lt a b) 255 0) ys (replicate n 9))) (replicate n 9) ys) (replicate n 9)

no_excess : (y : ℕ) → y ≤ 9 → excess y ≡ 0
no_excess y low = ⊎_elim
    (λ (less : y < 9). ap (λ (b : Bool). (cond (top 7 (cond b 255 0)) 9 y + (256 - 9)) % 256) (lt-ltb y 9 less))
    (λ (same : 9 ≤ y). ap (λ (b : Bool). (cond (top 7 (cond b 255 0)) 9 y + (256 - 9)) % 256) (le-ltb y 9 same) ∙ omega arith)
    (cases_lt y 9)

some_excess : (y : ℕ) → 9 < y → y < 256 → 0 < excess y
some_excess y high small =
    let is : excess y ≡ (y + 247) % 256 = ap (λ (b : Bool). (cond (top 7 (cond b 255 0)) 9 y + (256 - 9)) % 256) (le-ltb y 9 (omega arith)) in
    omega (arith, is)

and_false : (b : Bool) → (b && false) ≡ false
and_false true = refl
and_false false = refl

and_true : (b : Bool) → (b && true) ≡ b
and_true true = refl
and_true false = refl

and_thrice : (a b c : Bool) → ((a && b) && c) ≡ (a && (b && c))
and_thrice true b c = refl
and_thrice false b c = refl

one_more : (v y : ℕ) → y < 256 → nat_eq (bit_or v (excess y)) 0 ≡ (nat_eq v 0 && is_small y)
one_more v y small = ⊎_elim
    (λ (high : 9 < y).
    ne_eqb (bit_or v (excess y)) 0 (λ e. omega (arith, e, or_add_and v (excess y), and_le_l v (excess y), some_excess y high small))
    ∙ sym (ap (λ (b : Bool). nat_eq v 0 && b) (lt-leb y 9 high) ∙ and_false (nat_eq v 0)))
    (λ (low : y ≤ 9).
    ap (λ (e : ℕ). nat_eq (bit_or v e) 0) (no_excess y low) ∙ ap (λ (m : ℕ). nat_eq m 0) (or_zero_r v)
    ∙ sym (ap (λ (b : Bool). nat_eq v 0 && b) (le-leb y 9 low) ∙ and_true (nat_eq v 0)))
    (cases_lt 9 y)

all_small : (n v : ℕ) (ys : List ℕ) → length ys ≡ n → ((k : ℕ) → slice_index ys k < 256) → nat_eq (fold_l bit_or v (excesses n ys)) 0 ≡ (nat_eq v 0 && list_all is_small ys)
all_small zero v [] size bytes = sym (and_true (nat_eq v 0))
all_small zero v (y ∷ ys) size bytes = absurd (omega (arith, size))
all_small (suc n) v [] size bytes = absurd (omega (arith, size))
all_small (suc n) v (y ∷ ys) size bytes =
    all_small n (bit_or v (excess y)) ys (omega (arith, size)) (λ k. bytes (suc k))
    ∙ ap (λ (b : Bool). b && list_all is_small ys) (one_more v y (bytes 0)) ∙ and_thrice (nat_eq v 0) (is_small y) (list_all is_small ys)

pub are_small : (ys : List ℕ) → length ys ≡ 16 → Each1 (Fits w8) ys → nat_eq (fold_l bit_or 0 (excesses 16 ys)) 0 ≡ list_all is_small ys
are_small ys size fit = all_small 16 0 ys size (λ k. ⊎_elim
    (λ (inside : k < length ys). omega (arith, (Each1-get_or (Fits w8) ys k 0 inside fit).fits))
    (λ (past : length ys ≤ k). omega (arith, get_or_past ys k 0 past))
    (cases_lt k (length ys)))

-- the greater of two lanes, in each place
abbrev greater : List ℕ → List ℕ → List ℕ
greater xs ys = sel_l (map (top 7) (zip2 (λ a b. cond (nat_lt a b) 255 0) xs ys)) ys xs

greater_small : (x y : ℕ) → is_small (cond (top 7 (cond (nat_lt x y) 255 0)) y x) ≡ (is_small x && is_small y)
greater_small x y = ⊎_elim
    (λ (less : x < y). ap (λ (b : Bool). is_small (cond (top 7 (cond b 255 0)) y x)) (lt-ltb x y less) ∙ ⊎_elim
    (λ (high : 9 < y). lt-leb y 9 high ∙ sym (ap (λ (b : Bool). is_small x && b) (lt-leb y 9 high) ∙ and_false (is_small x)))
    (λ (low : y ≤ 9). sym (ap (λ (b : Bool). b && is_small y) (le-leb x 9 (omega arith))))
    (cases_lt 9 y))
    (λ (most : y ≤ x). ap (λ (b : Bool). is_small (cond (top 7 (cond b 255 0)) y x)) (le-ltb x y most) ∙ ⊎_elim
    (λ (high : 9 < x). lt-leb x 9 high ∙ sym (ap (λ (b : Bool). b && is_small y) (lt-leb x 9 high)))
    (λ (low : x ≤ 9). sym (ap (λ (b : Bool). is_small x && b) (le-leb y 9 (omega arith)) ∙ and_true (is_small x)))
    (cases_lt 9 x))
    (cases_lt x y)

and_across : (a b c d : Bool) → ((a && b) && (c && d)) ≡ ((a && c) && (b && d))
and_across true true c d = refl
and_across true false c d = sym (and_false c)
and_across false b c d = refl

pub both_small : (n : ℕ) (xs ys : List ℕ) → length xs ≡ n → length ys ≡ n → list_all is_small (greater xs ys) ≡ (list_all is_small xs && list_all is_small ys)
both_small zero [] [] sx sy = refl
both_small zero (x ∷ xs) ys sx sy = absurd (omega (arith, sx))
both_small zero [] (y ∷ ys) sx sy = absurd (omega (arith, sy))
both_small (suc n) [] ys sx sy = absurd (omega (arith, sx))
both_small (suc n) (x ∷ xs) [] sx sy = absurd (omega (arith, sy))
both_small (suc n) (x ∷ xs) (y ∷ ys) sx sy =
    ap (λ (b : Bool). b && list_all is_small (greater xs ys)) (greater_small x y)
    ∙ ap (λ (b : Bool). (is_small x && is_small y) && b) (both_small n xs ys (omega (arith, sx)) (omega (arith, sy)))
    ∙ and_across (is_small x) (is_small y) (list_all is_small xs) (list_all is_small ys)

pub each_small : (ys : List ℕ) → list_all is_small ys ≡ true → (k : ℕ) → slice_index ys k < 10
each_small ys all k = ⊎_elim
    (λ (inside : k < length ys). ⊎_elim
    (λ (small : is_small (get_or ys k 0) ≡ true). omega (arith, leb-true (get_or ys k 0) 9 small))
    (λ (other : is_small (get_or ys k 0) ≡ false). absurd (true≢false (sym all ∙ list_all_at is_small ys k 0 inside other)))
    (cases_Bool (is_small (get_or ys k 0))))
    (λ (past : length ys ≤ k). omega (arith, get_or_past ys k 0 past))
    (cases_lt k (length ys))

pub each_of_both : (xs ys : List ℕ) → length xs ≡ 16 → length ys ≡ 16 → list_all is_small (greater xs ys) ≡ true → ((k : ℕ) → slice_index xs k < 10) × ((k : ℕ) → slice_index ys k < 10)
each_of_both xs ys sx sy all =
    let parts = and_parts (list_all is_small xs) (list_all is_small ys) (sym (both_small 16 xs ys sx sy) ∙ all) in
    (each_small xs parts.0, each_small ys parts.1)

-- ---- the lanes of a line

each_passes : (p : ℕ → Bool) (xs : List ℕ) → ((k : ℕ) → k < length xs → p (get_or xs k 0) ≡ true) → list_all p xs ≡ true
each_passes p [] each = refl
each_passes p (x ∷ xs) each = ap (λ (b : Bool). b && list_all p xs) (each 0 (omega arith)) ∙ each_passes p xs (λ k below. each (suc k) (omega arith))

-- a byte whose lane is small is a digit
digit_by_lane : (x : ℕ) → x < 256 → (x + 208) % 256 < 10 → is_ascii_digit x ≡ true
digit_by_lane x small low = ap (λ (b : Bool). b && nat_le x 57) (le-leb 48 x (omega arith)) ∙ le-leb x 57 (omega arith)

module _ (text lanes : List ℕ) (from to : ℕ) (some : from < to) (few : to ≤ from + 16) (within : to ≤ length text) (bytes : (i : ℕ) → slice_index text i < 256) (ends : EndIn lanes text from to) where
  long : length (slice_range text from to) ≡ to - from
  long = length-chunk from (to - from) text (omega arith)

  line_byte : (k : ℕ) → k < to - from → get_or (slice_range text from to) k 0 ≡ slice_index text (from + k)
  line_byte k inside = get_or-chunk from (to - from) text k 0 inside

  pub digits_by_lanes : list_all is_small lanes ≡ true → list_all is_ascii_digit (slice_range text from to) ≡ true
  digits_by_lanes all = each_passes is_ascii_digit (slice_range text from to) (λ k below.
      let inside : k < to - from = omega (arith, long, below) in
      ap is_ascii_digit (line_byte k inside)
      ∙ digit_by_lane (slice_index text (from + k)) (bytes (from + k)) (omega (arith, ends.back k inside, each_small lanes all (16 - (to - from) + k))))

  digit_lane : list_all is_ascii_digit (slice_range text from to) ≡ true → (k : ℕ) → k < to - from
      → (slice_index lanes (16 - (to - from) + k) ≡ get_or (slice_range text from to) k 0 - 48) × (get_or (slice_range text from to) k 0 - 48 ≤ 9)
  digit_lane digits k inside =
      let below : k < length (slice_range text from to) = omega (arith, long) in
      let low = digit_at (slice_range text from to) k below digits in
      (omega (arith, ends.back k inside, line_byte k inside, low, digit_is_high (slice_range text from to) k below digits), low)

  pub lanes_by_digits : list_all is_ascii_digit (slice_range text from to) ≡ true → list_all is_small lanes ≡ true
  lanes_by_digits digits = each_passes is_small lanes (λ k below. le-leb (get_or lanes k 0) 9 (⊎_elim
      (λ (before : k + (to - from) < 16). omega (arith, ends.front k before))
      (λ (inside : 16 ≤ k + (to - from)).
      let i : ℕ = k - (16 - (to - from)) in
      let is : 16 - (to - from) + i ≡ k = omega arith in
      let lane = digit_lane digits i (omega (arith, ends.wide, below)) in
      omega (arith, ap (λ (j : ℕ). get_or lanes j 0) is, lane))
      (cases_lt (k + (to - from)) 16)))

  pub are_digits : list_all is_small lanes ≡ list_all is_ascii_digit (slice_range text from to)
  are_digits = ⊎_elim
      (λ (digits : list_all is_ascii_digit (slice_range text from to) ≡ true). lanes_by_digits digits ∙ sym digits)
      (λ (other : list_all is_ascii_digit (slice_range text from to) ≡ false). ⊎_elim
      (λ (small : list_all is_small lanes ≡ true). absurd (true≢false (sym (digits_by_lanes small) ∙ other)))
      (λ (large : list_all is_small lanes ≡ false). large ∙ sym other)
      (cases_Bool (list_all is_small lanes)))
      (cases_Bool (list_all is_ascii_digit (slice_range text from to)))

  zeros_joined : (z : ℕ) → z + (to - from) ≤ 16 → joined 10 (take z lanes) ≡ 0
  unfolding joined
  zeros_joined zero fits = refl
  zeros_joined (suc z) fits =
      let next : suc z ≡ z + 1 = omega arith in
      ap (λ (n : ℕ). joined 10 (take n lanes)) next ∙ fold_more (λ (value : ℕ) (number : ℕ). 10 * value + number) 0 lanes z 0 (omega (arith, ends.wide))
      ∙ omega (arith, ends.front z (omega arith), zeros_joined z (omega arith))

  line_joined : list_all is_ascii_digit (slice_range text from to) ≡ true → (n : ℕ) → n ≤ to - from → joined 10 (take (16 - (to - from) + n) lanes) ≡ value_of (take n (slice_range text from to))
  unfolding joined
  line_joined digits zero fits =
      let same : 16 - (to - from) + 0 ≡ 16 - (to - from) = omega arith in
      ap (λ (n : ℕ). joined 10 (take n lanes)) same ∙ zeros_joined (16 - (to - from)) (omega arith) ∙ sym value_of_none
  line_joined digits (suc n) fits =
      let next : 16 - (to - from) + suc n ≡ (16 - (to - from) + n) + 1 = omega arith in
      let last : suc n ≡ n + 1 = omega arith in
      ap (λ (m : ℕ). joined 10 (take m lanes)) next ∙ fold_more (λ (value : ℕ) (number : ℕ). 10 * value + number) 0 lanes (16 - (to - from) + n) 0 (omega (arith, ends.wide))
      ∙ omega (arith, line_joined digits n (omega arith), (digit_lane digits n (omega arith)).0, value_of_more (slice_range text from to) n (omega (arith, long)))
      ∙ ap (λ (m : ℕ). value_of (take m (slice_range text from to))) (sym last)

  pub value_by_lanes : list_all is_ascii_digit (slice_range text from to) ≡ true → joined 10 lanes ≡ value_of (slice_range text from to)
  value_by_lanes digits =
      let whole : 16 - (to - from) + (to - from) ≡ 16 = omega arith in
      ap (joined 10) (sym (take_all 16 lanes (omega (arith, ends.wide)))) ∙ ap (λ (n : ℕ). joined 10 (take n lanes)) (sym whole)
      ∙ line_joined digits (to - from) (omega arith) ∙ ap value_of (take_all (to - from) (slice_range text from to) (omega (arith, long)))

-- ---- lanes of which only the last are above 0

module _ (lanes : List ℕ) (wide : length lanes ≡ 16) (few : (k : ℕ) → k < 13 → slice_index lanes k ≡ 0) where
  joined_more : (i : ℕ) → i < 16 → joined 10 (take (i + 1) lanes) ≡ 10 * joined 10 (take i lanes) + slice_index lanes i
  unfolding joined
  joined_more i below = fold_more (λ (value : ℕ) (number : ℕ). 10 * value + number) 0 lanes i 0 (omega (arith, wide))

  none_joined : (z : ℕ) → z ≤ 13 → joined 10 (take z lanes) ≡ 0
  unfolding joined
  none_joined zero fits = refl
  none_joined (suc z) fits =
      let next : suc z ≡ z + 1 = omega arith in
      ap (λ (n : ℕ). joined 10 (take n lanes)) next ∙ omega (arith, joined_more z (omega arith), few z (omega arith), none_joined z (omega arith))

  pub joined_by_last : slice_index lanes 13 * 100 + slice_index lanes 14 * 10 + slice_index lanes 15 ≡ joined 10 lanes
  joined_by_last =
      omega (arith, joined_more 15 (omega arith), joined_more 14 (omega arith), joined_more 13 (omega arith), none_joined 13 (omega arith))
      ∙ ap (joined 10) (take_all 16 lanes (omega (arith, wide)))

-- ---- a line in two parts, the last 16 bytes and those before

pub range_in_parts : (text : List ℕ) (from middle to : ℕ) → from ≤ middle → middle ≤ to → slice_range text from to ≡ slice_range text from middle ++ slice_range text middle to
range_in_parts text from middle to front back =
    let whole : to - from ≡ (middle - from) + (to - middle) = omega arith in
    let place : from + (middle - from) ≡ middle = omega arith in
    ap (λ (n : ℕ). take n (drop from text)) whole ∙ take-add (middle - from) (to - middle) (drop from text)
    ∙ ap (λ (l : List ℕ). slice_range text from middle ++ take (to - middle) l) (drop-drop (middle - from) from text)
    ∙ ap (λ (i : ℕ). slice_range text from middle ++ take (to - middle) (drop i text)) place

module _ (text high low : List ℕ) (from to : ℕ) (many : from + 16 < to) (few : to ≤ from + 19) (within : to ≤ length text) (bytes : (i : ℕ) → slice_index text i < 256)
    (front : EndIn high text from (to - 16)) (back : EndIn low text (to - 16) to) where
  parts : slice_range text from to ≡ slice_range text from (to - 16) ++ slice_range text (to - 16) to
  parts = range_in_parts text from (to - 16) to (omega arith) (omega arith)

  digits_in_parts : list_all is_ascii_digit (slice_range text from to) ≡ (list_all is_ascii_digit (slice_range text from (to - 16)) && list_all is_ascii_digit (slice_range text (to - 16) to))
  digits_in_parts = ap (list_all is_ascii_digit) parts ∙ list_all-append is_ascii_digit (slice_range text from (to - 16)) (slice_range text (to - 16) to)

  both_are_digits : (list_all is_small high && list_all is_small low) ≡ list_all is_ascii_digit (slice_range text from to)
  both_are_digits =
      ap (λ (b : Bool). b && list_all is_small low) (are_digits text high from (to - 16) (omega arith) (omega arith) (omega arith) bytes front)
      ∙ ap (λ (b : Bool). list_all is_ascii_digit (slice_range text from (to - 16)) && b) (are_digits text low (to - 16) to (omega arith) (omega arith) within bytes back)
      ∙ sym digits_in_parts

  pub both_refused : (list_all is_small high && list_all is_small low) ≡ false → None ≡ spelled (slice_range text from to)
  both_refused other = spelled_by_other (slice_range text from to) (sym both_are_digits ∙ other)

  module _ (small : (list_all is_small high && list_all is_small low) ≡ true) where
    digits : list_all is_ascii_digit (slice_range text from to) ≡ true
    digits = sym both_are_digits ∙ small

    each : (list_all is_ascii_digit (slice_range text from (to - 16)) ≡ true) × (list_all is_ascii_digit (slice_range text (to - 16) to) ≡ true)
    each = and_parts (list_all is_ascii_digit (slice_range text from (to - 16))) (list_all is_ascii_digit (slice_range text (to - 16) to)) (sym digits_in_parts ∙ digits)

    high_is : joined 10 high ≡ value_of (slice_range text from (to - 16))
    high_is = value_by_lanes text high from (to - 16) (omega arith) (omega arith) (omega arith) bytes front each.0

    low_is : joined 10 low ≡ value_of (slice_range text (to - 16) to)
    low_is = value_by_lanes text low (to - 16) to (omega arith) (omega arith) within bytes back each.1

    low_long : length (slice_range text (to - 16) to) ≡ 16
    low_long = let size : to - (to - 16) ≡ 16 = omega arith in length-chunk (to - 16) (to - (to - 16)) text (omega arith) ∙ size

    pub high_below : joined 10 high < 1000
    high_below =
        let line = slice_range text from (to - 16) in
        let long : length line ≡ to - 16 - from = length-chunk from (to - 16 - from) text (omega arith) in
        let less : value_of (take (length line) line) < 10 ^ length line = value_below line (length line) (omega arith) each.0 in
        let whole : value_of (take (length line) line) ≡ value_of line = ap value_of (take_all (length line) line (omega arith)) in
        let most : length line + (3 - length line) ≡ 3 = omega (arith, long) in
        omega (arith, high_is, less, whole, ten_power_rises (length line) (3 - length line), ap (λ (n : ℕ). 10 ^ n) most)

    pub low_below : joined 10 low < 10000000000000000
    low_below =
        let line = slice_range text (to - 16) to in
        omega (arith, low_is, value_below line 16 (omega (arith, low_long)) each.1, ap value_of (take_all 16 line (omega (arith, low_long))))

    pub both_spelled : Some (joined 10 high * 10000000000000000 + joined 10 low) ≡ spelled (slice_range text from to)
    both_spelled =
        let before = slice_range text from (to - 16) in
        let behind = slice_range text (to - 16) to in
        let is : joined 10 high * 10000000000000000 + joined 10 low ≡ value_of (slice_range text from to) =
        omega (arith, high_is, low_is, value_of_parts before behind, ap value_of parts, ap (λ (n : ℕ). value_of before * 10 ^ n) low_long) in
        ap (λ (n : ℕ). Some n) is ∙ spelled_by_digits (slice_range text from to) digits

-- ---- the lanes that are kept

abbrev masks : List ℕ
masks = replicate 16 0 ++ replicate 16 255

abbrev less_zero : ℕ → ℕ
less_zero x = (x + 208) % 256

abbrev kept_lanes : List ℕ → ℕ → ℕ → List ℕ
kept_lanes text at n = zip2 bit_and (zip2 (λ a b. (a + (256 - b)) % 256) (chunk at 16 text) (replicate 16 48)) (chunk 0 16 (chunk n (32 - n) masks))

-- a mask that clears a byte, and one that keeps it
cleared : (i : ℕ) → i < 16 → get_or masks i 0 ≡ 0
cleared i below = get_or_append_left (replicate 16 0) (replicate 16 255) 0 i (omega (arith, length-replicate {A = ℕ} 16 0)) ∙ get_or-replicate 16 i 0 0 below

whole : (i : ℕ) → 16 ≤ i → i < 32 → get_or masks i 0 ≡ 255
whole i from below = get_or-append_right (replicate 16 0) (replicate 16 255) 16 i 0 (length-replicate {A = ℕ} 16 0) from ∙ get_or-replicate 16 (i - 16) 255 0 (omega arith)

module _ (text : List ℕ) (at n : ℕ) (within : at + 16 ≤ length text) (few : n ≤ 16) where
  block_long : length (chunk at 16 text) ≡ 16
  block_long = length-chunk at 16 text within

  less : zip2 (λ (a b : ℕ). (a + (256 - b)) % 256) (chunk at 16 text) (replicate 16 48) ≡ map less_zero (chunk at 16 text)
  less = zip2_splat (λ (a b : ℕ). (a + (256 - b)) % 256) (chunk at 16 text) 16 48 block_long

  less_long : length (map less_zero (chunk at 16 text)) ≡ 16
  less_long = length-map (chunk at 16 text) less_zero ∙ block_long

  less_lane : (k : ℕ) → k < 16 → get_or (map less_zero (chunk at 16 text)) k 0 ≡ less_zero (slice_index text (at + k))
  less_lane k below = get_or-map less_zero (chunk at 16 text) k 48
      ∙ ap less_zero (get_or_default (chunk at 16 text) k 48 0 (omega (arith, block_long)) ∙ get_or-chunk at 16 text k 0 below)

  mask_long : length (chunk 0 16 (chunk n (32 - n) masks)) ≡ 16
  mask_long = length-chunk 0 16 (chunk n (32 - n) masks) (omega (arith, length-chunk n (32 - n) masks (omega arith)))

  mask_lane : (k : ℕ) → k < 16 → get_or (chunk 0 16 (chunk n (32 - n) masks)) k 0 ≡ get_or masks (n + k) 0
  mask_lane k below =
      let same : 0 + k ≡ k = omega arith in
      get_or-chunk 0 16 (chunk n (32 - n) masks) k 0 below ∙ ap (λ (i : ℕ). get_or (chunk n (32 - n) masks) i 0) same ∙ get_or-chunk n (32 - n) masks k 0 (omega arith)

  lane_of_block : (k : ℕ) → k < 16 → slice_index (kept_lanes text at n) k ≡ bit_and (less_zero (slice_index text (at + k))) (get_or masks (n + k) 0)
  lane_of_block k below =
      ap (λ (l : List ℕ). get_or (zip2 bit_and l (chunk 0 16 (chunk n (32 - n) masks))) k 0) less
      ∙ get_or-zip2 bit_and (map less_zero (chunk at 16 text)) (chunk 0 16 (chunk n (32 - n) masks)) k 0 0 0 (omega (arith, less_long)) (omega (arith, mask_long))
      ∙ ap (λ (x : ℕ). bit_and x (get_or (chunk 0 16 (chunk n (32 - n) masks)) k 0)) (less_lane k below)
      ∙ ap (λ (m : ℕ). bit_and (less_zero (slice_index text (at + k))) m) (mask_lane k below)

  pub length_kept : length (kept_lanes text at n) ≡ 16
  length_kept =
      let lanes : List ℕ = zip2 (λ (a b : ℕ). (a + (256 - b)) % 256) (chunk at 16 text) (replicate 16 48) in
      let long : length lanes ≡ 16 = ap (λ (l : List ℕ). length l) less ∙ less_long in
      length-zip2 bit_and lanes (chunk 0 16 (chunk n (32 - n) masks)) (omega (arith, long, mask_long)) ∙ long

  pub lane_in_front : (k : ℕ) → k + n < 16 → slice_index (kept_lanes text at n) k ≡ 0
  lane_in_front k before = lane_of_block k (omega arith)
      ∙ ap (λ (m : ℕ). bit_and (less_zero (slice_index text (at + k))) m) (cleared (n + k) (omega arith)) ∙ and_zero_r (less_zero (slice_index text (at + k)))

  pub lane_of_line : (k i : ℕ) → k < n → at + 16 ≡ i + n → slice_index (kept_lanes text at n) (16 - n + k) ≡ less_zero (slice_index text (i + k))
  lane_of_line k i inside place =
      let j : ℕ = 16 - n + k in
      let same : at + j ≡ i + k = omega arith in
      lane_of_block j (omega arith)
      ∙ ap (λ (m : ℕ). bit_and (less_zero (slice_index text (at + j))) m) (whole (n + j) (omega arith) (omega arith))
      ∙ and_mask (less_zero (slice_index text (at + j))) 8 ∙ omega arith
      ∙ ap (λ (p : ℕ). less_zero (slice_index text p)) same
