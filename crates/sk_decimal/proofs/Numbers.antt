-- Digits of numbers, and fractions among words.
use Rattle.std.proofs.Common.{◌≡◌, ◌≢◌, ℕ, zero, suc, ◌+◌, ◌-◌, ◌*◌, ◌/◌, ◌%◌, ◌^◌, ◌<◌, ◌≤◌, ◌&&◌, Bool, true, false, nat_lt, nat_le, cond, eqb, List, [], ◌∷◌, ◌++◌, length, take, drop, get_or, Option, Some, None, decimal, refl, sym, ap, ◌∙◌, arith, lt-ltb, le-ltb, le-leb, ne_eqb, eq-eqb, append_assoc, length-append, length-drop}
use borrow.Author.Tests.{lt-leb}
use Rattle.std.specs.List.{list_all, position_or_len}
use Rattle.std.specs.Char.{is_ascii_digit}
use Rattle.std.proofs.lemmas.List.{drop_all, drop-append-le, take_more, length-take-le}
use Rattle.std.proofs.lemmas.List.Sums.{fold_more}
use Rattle.std.proofs.lemmas.Nat.{mul-le}
use Rattle.sk_model.specs.Numbers.{value_of}
use Rattle.sk_lines.proofs.Digits.{value_below, value_of_more, ten_power_rises}
use Rattle.sk_decimal.specs.Decimal.{last_digits, pointed, decimal_of}
use Rattle.sk_decimal.specs.Rounded.{short_number, fraction, fraction_of, last_word, with_last}

-- ---- digits

pub no_digits : (width n : ℕ) → width ≡ 0 → [] ≡ last_digits width n
unfolding last_digits
no_digits zero n is = refl
no_digits (suc width) n is = absurd (omega arith)

pub more_digits : (width n : ℕ) → width ≢ 0 → last_digits (width - 1) (n / 10) ++ (48 + n % 10) ∷ [] ≡ last_digits width n
unfolding last_digits
more_digits zero n some = absurd (some refl)
more_digits (suc width) n some = let less : suc width - 1 ≡ width = omega arith in ap (λ (w : ℕ). last_digits w (n / 10) ++ (48 + n % 10) ∷ []) less

pub length_digits : (width n : ℕ) → length (last_digits width n) ≡ width
unfolding last_digits
length_digits zero n = refl
length_digits (suc width) n = omega (arith, length-append (last_digits width (n / 10)) ((48 + n % 10) ∷ []), length_digits width (n / 10))

pub no_point : (digits units : ℕ) → digits ≡ 0 → decimal (units / 10 ^ digits) ≡ pointed digits units
unfolding pointed
no_point zero units is = sym (append_none (decimal (units / 10 ^ 0)))
  where
    append_none : (l : List ℕ) → l ++ [] ≡ l
    append_none [] = refl
    append_none (x ∷ l) = ap (λ (m : List ℕ). x ∷ m) (append_none l)
no_point (suc digits) units is = absurd (omega arith)

pub with_point : (digits units : ℕ) → digits ≢ 0 → (decimal (units / 10 ^ digits) ++ 46 ∷ []) ++ last_digits digits units ≡ pointed digits units
unfolding pointed
with_point digits units some =
    append_assoc (decimal (units / 10 ^ digits)) (46 ∷ []) (last_digits digits units)
    ∙ ap (λ (b : Bool). decimal (units / 10 ^ digits) ++ cond b [] (46 ∷ [] ++ last_digits digits units)) (sym (ne_eqb digits 0 some))

pub ten_power_some : (k : ℕ) → 1 ≤ 10 ^ k
ten_power_some k = let same : 0 + k ≡ k = omega arith in omega (arith, ten_power_rises 0 k, ap (λ (n : ℕ). 10 ^ n) same)

pub scale_small : (digits : ℕ) → digits ≤ 6 → 10 ^ digits ≤ 1000000
scale_small digits few =
    let same : digits + (6 - digits) ≡ 6 = omega arith in
    omega (arith, ten_power_rises digits (6 - digits), ap (λ (n : ℕ). 10 ^ n) same)

pub units_fit : (digits n : ℕ) → digits ≤ 6 → n < 10 ^ 30 → 2 * n * 10 ^ digits ≤ 2 * 10 ^ 36
units_fit digits n few small =
    let product = mul-le (2 * n) (10 ^ digits) (2 * 10 ^ 30) 1000000 (omega arith) (scale_small digits few) in
    omega (arith, product)

pub value_fits : (bytes : List ℕ) (i : ℕ) → i < length bytes → length bytes ≤ 38 → list_all is_ascii_digit bytes ≡ true → 10 * value_of (take i bytes) + (get_or bytes i 0 - 48) < 10 ^ 38
value_fits bytes i within few digits =
    let less = value_below bytes (i + 1) (omega arith) digits in
    let same : (i + 1) + (37 - i) ≡ 38 = omega arith in
    omega (arith, less, ten_power_rises (i + 1) (37 - i), value_of_more bytes i within, ap (λ (n : ℕ). 10 ^ n) same)

pub value_small : (bytes : List ℕ) (most : ℕ) → length bytes ≤ most → value_of bytes < 10 ^ length bytes → value_of bytes < 10 ^ most
value_small bytes most few less =
    let same : length bytes + (most - length bytes) ≡ most = omega arith in
    omega (arith, less, ten_power_rises (length bytes) (most - length bytes), ap (λ (n : ℕ). 10 ^ n) same)

-- ---- numbers of few digits

and_false : (b : Bool) → (b && false) ≡ false
and_false true = refl
and_false false = refl

module _ (most : ℕ) (word : List ℕ) where
  pub no_number_by_none : length word ≡ 0 → None ≡ short_number most word
  unfolding short_number
  no_number_by_none none =
      sym (ap (λ (b : Bool). cond (list_all is_ascii_digit word && b && nat_le (length word) most) (Some (value_of word)) None) (le-ltb 0 (length word) (omega arith))
      ∙ ap (λ (b : Bool). cond (b && nat_le (length word) most) (Some (value_of word)) None) (and_false (list_all is_ascii_digit word)))

  pub no_number_by_many : most < length word → None ≡ short_number most word
  unfolding short_number
  no_number_by_many many =
      sym (ap (λ (b : Bool). cond (list_all is_ascii_digit word && nat_lt 0 (length word) && b) (Some (value_of word)) None) (lt-leb (length word) most many)
      ∙ ap (λ (b : Bool). cond b (Some (value_of word)) None) (and_false (list_all is_ascii_digit word && nat_lt 0 (length word))))

  pub no_number_by_other : list_all is_ascii_digit word ≡ false → None ≡ short_number most word
  unfolding short_number
  no_number_by_other other = sym (ap (λ (b : Bool). cond (b && nat_lt 0 (length word) && nat_le (length word) most) (Some (value_of word)) None) other)

  pub number_is : list_all is_ascii_digit word ≡ true → 0 < length word → length word ≤ most → Some (value_of word) ≡ short_number most word
  unfolding short_number
  number_is digits some few =
      sym (ap (λ (b : Bool). cond (b && nat_lt 0 (length word) && nat_le (length word) most) (Some (value_of word)) None) digits
      ∙ ap (λ (b : Bool). cond (b && nat_le (length word) most) (Some (value_of word)) None) (lt-ltb 0 (length word) some)
      ∙ ap (λ (b : Bool). cond b (Some (value_of word)) None) (le-leb (length word) most few))

-- ---- fractions

abbrev is_slash : ℕ → Bool
is_slash byte = eqb byte 47

no_denominator : (n : Option ℕ) → fraction n None ≡ None
no_denominator None = refl
no_denominator (Some n) = refl

no_zero : (n : Option ℕ) → fraction n (Some 0) ≡ None
no_zero None = refl
no_zero (Some n) = refl

some_fraction : (n d : ℕ) → d ≢ 0 → fraction (Some n) (Some d) ≡ Some (n, d)
some_fraction n zero some = absurd (some refl)
some_fraction n (suc d) some = refl

module _ (word : List ℕ) (slash : ℕ) (is : slash ≡ position_or_len is_slash word) where
  parts : fraction (short_number 30 (take slash word)) (short_number 20 (drop (slash + 1) word)) ≡ fraction_of word
  unfolding fraction_of
  parts = ap (λ (k : ℕ). fraction (short_number 30 (take k word)) (short_number 20 (drop (k + 1) word))) is

  pub no_slash : slash ≡ length word → None ≡ fraction_of word
  no_slash end =
      sym (no_denominator (short_number 30 (take slash word))) ∙ ap (fraction (short_number 30 (take slash word))) (no_number_by_none 20 (drop (slash + 1) word) (omega (arith, length-drop (slash + 1) word)))
      ∙ parts

  pub no_numerator : None ≡ short_number 30 (take slash word) → None ≡ fraction_of word
  no_numerator none = ap (λ (n : Option ℕ). fraction n (short_number 20 (drop (slash + 1) word))) none ∙ parts

  pub no_denominator_read : None ≡ short_number 20 (drop (slash + 1) word) → None ≡ fraction_of word
  no_denominator_read none = sym (no_denominator (short_number 30 (take slash word))) ∙ ap (fraction (short_number 30 (take slash word))) none ∙ parts

  pub zero_denominator : (d : ℕ) → d ≡ 0 → Some d ≡ short_number 20 (drop (slash + 1) word) → None ≡ fraction_of word
  zero_denominator d none read =
      sym (no_zero (short_number 30 (take slash word))) ∙ ap (λ (m : ℕ). fraction (short_number 30 (take slash word)) (Some m)) (sym none)
      ∙ ap (fraction (short_number 30 (take slash word))) read ∙ parts

  pub fraction_read : (n d : ℕ) → d ≢ 0 → Some n ≡ short_number 30 (take slash word) → Some d ≡ short_number 20 (drop (slash + 1) word) → Some (n, d) ≡ fraction_of word
  fraction_read n d some upper lower =
      sym (some_fraction n d some) ∙ ap (λ (m : Option ℕ). fraction m (Some d)) upper ∙ ap (fraction (short_number 30 (take slash word))) lower ∙ parts

-- ---- the last word

pub no_word : [] ≡ last_word []
unfolding last_word
no_word = refl

word_step : (line : List ℕ) (i : ℕ) → i < length line → last_word (take (i + 1) line) ≡ cond (eqb (get_or line i 0) 32) [] (last_word (take i line) ++ get_or line i 0 ∷ [])
unfolding last_word
word_step line i within = fold_more (λ (word : List ℕ) (byte : ℕ). cond (eqb byte 32) [] (word ++ byte ∷ [])) [] line i 0 within

pub space_here : (line : List ℕ) (i : ℕ) → i < length line → get_or line i 0 ≡ 32 → drop (i + 1) (take (i + 1) line) ≡ last_word (take (i + 1) line)
space_here line i within is =
    drop_all (i + 1) (take (i + 1) line) (omega (arith, length-take-le (i + 1) line (omega arith)))
    ∙ sym (word_step line i within ∙ ap (λ (b : Bool). cond b [] (last_word (take i line) ++ get_or line i 0 ∷ [])) (eq-eqb (get_or line i 0) 32 is))

pub letter_here : (line : List ℕ) (i start : ℕ) → i < length line → get_or line i 0 ≢ 32 → start ≤ i → drop start (take i line) ≡ last_word (take i line) → drop start (take (i + 1) line) ≡ last_word (take (i + 1) line)
letter_here line i start within other before is =
    ap (drop start) (take_more line i 0 within) ∙ drop-append-le start (take i line) (get_or line i 0 ∷ []) (omega (arith, length-take-le i line (omega arith)))
    ∙ ap (λ (l : List ℕ). l ++ get_or line i 0 ∷ []) is
    ∙ sym (word_step line i within ∙ ap (λ (b : Bool). cond b [] (last_word (take i line) ++ get_or line i 0 ∷ [])) (ne_eqb (get_or line i 0) 32 other))

-- a line whose last word was replaced
pub last_replaced : (digits : ℕ) (line text : List ℕ) (start n d : ℕ) → start ≤ length line → drop start line ≡ last_word line → Some (n, d) ≡ fraction_of (drop start line) → text ≡ decimal_of digits n d
    → take start line ++ text ≡ with_last digits line (fraction_of (last_word line))
last_replaced digits line text start n d within word read is =
    let place : start ≡ length line - length (last_word line) = omega (arith, within, length-drop start line, ap length word) in
    ap (λ (t : List ℕ). take start line ++ t) is ∙ ap (λ (k : ℕ). take k line ++ decimal_of digits n d) place
    ∙ ap (with_last digits line) (read ∙ ap fraction_of word)
