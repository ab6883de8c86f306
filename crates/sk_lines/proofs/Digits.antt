-- Lemmas on numbers as decimal digits.
use Rattle.std.proofs.Common.{◌≡◌, ℕ, zero, suc, ◌+◌, ◌-◌, ◌*◌, ◌/◌, ◌%◌, ◌^◌, ◌<◌, ◌≤◌, Bool, true, false, ◌&&◌, nat_lt, nat_le, cond, ◌⊎◌, inl, inr, List, [], ◌∷◌, ◌++◌, length, take, drop, get_or, Some, None, fold, decimal, refl, sym, ap, ◌∙◌, arith, take-append-drop, length-append, length-drop, pow-suc, take-add, take_at, drop_at, lt-ltb, le-ltb, le-leb, true≢false, take_all}
use borrow.Author.Tests.{lt-leb}
use Rattle.std.specs.List.{list_all}
use Rattle.std.specs.Char.{is_ascii_digit}
use Rattle.std.proofs.lemmas.Fmt.{decimal_step, decimal_digit, length-decimal-le}
use Rattle.std.proofs.lemmas.List.Sums.{fold-append, fold_more}
use Rattle.std.proofs.lemmas.Bool.{cases_Bool, and_parts, leb-true}
use Rattle.std.proofs.lemmas.List.Folds.{list_all-append, list_all_more, list_all_at}
use Rattle.std.proofs.lemmas.List.{take-append-le}
use Rattle.sk_lines.specs.Fractions.{fraction_text}
use Rattle.sk_model.specs.Numbers.{value_of, number_of}

ten_power : (k : ℕ) → 1 ≤ 10 ^ k
ten_power zero = omega arith
ten_power (suc k) = omega (arith, pow-suc 10 k, ten_power k)

length_decimal_at : (k n : ℕ) → n < 2 ^ 64 → 10 ^ k ≤ n → n < 10 * 10 ^ k → length (decimal n) ≡ k + 1
length_decimal_at zero n small low high = ap length (decimal_digit n (omega arith))
length_decimal_at (suc k) n small low high =
    let up : 10 ^ suc k ≡ 10 * 10 ^ k = omega (arith, pow-suc 10 k) in
    let some : 1 ≤ 10 ^ k = ten_power k in
    let step = ap length (decimal_step n (omega arith) small) in
    let less = length_decimal_at k (n / 10) (omega arith) (omega arith) (omega arith) in
    omega (arith, step, less, length-append (decimal (n / 10)) ((48 + n % 10) ∷ []))

-- the number of digits, by the power of ten at or below the number, or 1 at 0
pub length_decimal : (k n m : ℕ) → n < 2 ^ 64 → (m ≡ n) ⊎ ((n ≡ 0) × (m ≡ 1)) → 10 ^ k ≤ m → m < 10 * 10 ^ k → k + 1 ≡ length (decimal n)
length_decimal k n m small (inl same) low high = sym (length_decimal_at k n small (omega arith) (omega arith))
length_decimal zero n m small (inr none) low high = sym (ap length (decimal_digit n (omega arith)))
length_decimal (suc k) n m small (inr none) low high =
    absurd (let some = ten_power k in let up = pow-suc 10 k in omega arith)

and_false : (b : Bool) → (b && false) ≡ false
and_false true = refl
and_false false = refl

module _ {A : Type 0} (a b c d : Bool) (x y : A) where
  all_true : a ≡ true → b ≡ true → c ≡ true → d ≡ true → cond (a && b && c && d) x y ≡ x
  all_true ea eb ec ed =
      ap (λ t. cond (t && b && c && d) x y) ea ∙ ap (λ t. cond (t && c && d) x y) eb ∙ ap (λ t. cond (t && d) x y) ec ∙ ap (λ t. cond t x y) ed

  first_false : a ≡ false → cond (a && b && c && d) x y ≡ y
  first_false e = ap (λ t. cond (t && b && c && d) x y) e

  second_false : b ≡ false → cond (a && b && c && d) x y ≡ y
  second_false e = ap (λ t. cond (a && t && c && d) x y) e ∙ ap (λ t. cond (t && c && d) x y) (and_false a)

  third_false : c ≡ false → cond (a && b && c && d) x y ≡ y
  third_false e = ap (λ t. cond (a && b && t && d) x y) e ∙ ap (λ t. cond (t && d) x y) (and_false (a && b))

  fourth_false : d ≡ false → cond (a && b && c && d) x y ≡ y
  fourth_false e = ap (λ t. cond (a && b && c && t) x y) e ∙ ap (λ t. cond t x y) (and_false (a && b && c))

module _ (end : ℕ) (bytes : List ℕ) where
  pub number_by_no_digit : list_all is_ascii_digit bytes ≡ false → None ≡ number_of end bytes
  unfolding number_of
  number_by_no_digit e = sym (first_false _ _ _ _ _ _ e)

  pub number_by_none : length bytes ≡ 0 → None ≡ number_of end bytes
  unfolding number_of
  number_by_none e = sym (second_false _ _ _ _ _ _ (le-ltb 0 (length bytes) (omega arith)))

  pub number_by_too_many : length (decimal (end - 1)) < length bytes → None ≡ number_of end bytes
  unfolding number_of
  number_by_too_many more = sym (third_false (list_all is_ascii_digit bytes) (nat_lt 0 (length bytes)) _ (nat_lt (value_of bytes) end) (Some (value_of bytes)) None (lt-leb (length bytes) (length (decimal (end - 1))) more))

  pub number_by_too_large : end ≤ value_of bytes → None ≡ number_of end bytes
  unfolding number_of
  number_by_too_large most = sym (fourth_false (list_all is_ascii_digit bytes) (nat_lt 0 (length bytes)) (nat_le (length bytes) (length (decimal (end - 1)))) _ (Some (value_of bytes)) None (le-ltb (value_of bytes) end most))

  pub number_by_digits : list_all is_ascii_digit bytes ≡ true → 0 < length bytes → length bytes ≤ length (decimal (end - 1)) → value_of bytes < end → Some (value_of bytes) ≡ number_of end bytes
  unfolding number_of
  number_by_digits digits some few small =
      sym (all_true _ _ _ _ _ _ digits (lt-ltb 0 (length bytes) some) (le-leb (length bytes) (length (decimal (end - 1))) few) (lt-ltb (value_of bytes) end small))

fold_rises : (a : ℕ) (bytes : List ℕ) → a ≤ fold (λ value digit. 10 * value + (digit - 48)) a bytes
fold_rises a [] = omega arith
fold_rises a (x ∷ xs) = omega (arith, fold_rises (10 * a + (x - 48)) xs)

-- the value of a prefix is no more than that of the whole
pub value_of_front : (k : ℕ) (bytes : List ℕ) → value_of (take k bytes) ≤ value_of bytes
unfolding value_of
value_of_front k bytes =
    let f = λ (value : ℕ) (digit : ℕ). 10 * value + (digit - 48) in
    omega (arith, ap (fold f 0) (take-append-drop k bytes), fold-append f 0 (take k bytes) (drop k bytes), fold_rises (fold f 0 (take k bytes)) (drop k bytes))

pub value_of_none : value_of [] ≡ 0
unfolding value_of
value_of_none = refl

pub value_of_more : (bytes : List ℕ) (i : ℕ) → i < length bytes → value_of (take (i + 1) bytes) ≡ 10 * value_of (take i bytes) + (get_or bytes i 0 - 48)
unfolding value_of
value_of_more bytes i in_bytes = fold_more (λ value digit. 10 * value + (digit - 48)) 0 bytes i 0 in_bytes

pub decimal_is_short : (n : ℕ) → n < 2 ^ 64 → length (decimal n) ≤ 20
decimal_is_short n small = length-decimal-le 20 n (omega arith) (omega arith) small

pub length_decimal_more : (n : ℕ) → 10 ≤ n → n < 2 ^ 64 → length (decimal n) ≡ length (decimal (n / 10)) + 1
length_decimal_more n most small = ap length (decimal_step n most small) ∙ length-append (decimal (n / 10)) ((48 + n % 10) ∷ [])

pub one_digit : (n : ℕ) → n < 10 → length (decimal n) ≡ 1
one_digit n small = ap length (decimal_digit n small)

pub more_digits : (bytes : List ℕ) (i : ℕ) → i < length bytes → list_all is_ascii_digit (take i bytes) ≡ true → is_ascii_digit (get_or bytes i 0) ≡ true → list_all is_ascii_digit (take (i + 1) bytes) ≡ true
more_digits bytes i in_bytes front here =
    list_all_more is_ascii_digit bytes i 0 in_bytes ∙ ap (λ b. b && is_ascii_digit (get_or bytes i 0)) front ∙ here

pub not_all_digits : (bytes : List ℕ) (i : ℕ) → i < length bytes → is_ascii_digit (get_or bytes i 0) ≡ false → list_all is_ascii_digit bytes ≡ false
not_all_digits bytes i in_bytes other =
    let front = list_all_more is_ascii_digit bytes i 0 in_bytes ∙ ap (λ b. list_all is_ascii_digit (take i bytes) && b) other ∙ and_false (list_all is_ascii_digit (take i bytes)) in
    ap (list_all is_ascii_digit) (sym (take-append-drop (i + 1) bytes)) ∙ list_all-append is_ascii_digit (take (i + 1) bytes) (drop (i + 1) bytes)
    ∙ ap (λ b. b && list_all is_ascii_digit (drop (i + 1) bytes)) front

pub too_large_at : (bytes : List ℕ) (i value end : ℕ) → i < length bytes → value ≡ value_of (take i bytes) → end ≤ 10 * value + (get_or bytes i 0 - 48) → end ≤ value_of bytes
too_large_at bytes i value end in_bytes is most =
    omega (arith, value_of_more bytes i in_bytes, value_of_front (i + 1) bytes)

-- a prefix and a written part after it
pub written_behind : (front ys behind : List ℕ) (n m : ℕ) → length front ≡ n → m ≤ length ys → take (n + m) (front ++ (ys ++ behind)) ≡ front ++ take m ys
written_behind front ys behind n m size fits =
    take-add n m (front ++ (ys ++ behind)) ∙ ap (λ (l : List ℕ). l ++ take m (drop n (front ++ (ys ++ behind)))) (take_at front (ys ++ behind) n size)
    ∙ ap (λ (l : List ℕ). front ++ take m l) (drop_at front (ys ++ behind) n size) ∙ ap (λ (l : List ℕ). front ++ l) (take-append-le m ys behind fits)

pub length_fraction : (n d : ℕ) → length (fraction_text n d) ≡ length (decimal n) + 1 + length (decimal d)
unfolding fraction_text
length_fraction n d = omega (arith, length-append (decimal n ++ 47 ∷ []) (decimal d), length-append (decimal n) (47 ∷ []))

pub fraction_parts : (n d : ℕ) → (decimal n ++ 47 ∷ []) ++ decimal d ≡ fraction_text n d
unfolding fraction_text
fraction_parts n d = refl

-- ---- few digits

pub digit_at : (bytes : List ℕ) (i : ℕ) → i < length bytes → list_all is_ascii_digit bytes ≡ true → get_or bytes i 0 - 48 ≤ 9
digit_at bytes i in_bytes digits = elim (cases_Bool (is_ascii_digit (get_or bytes i 0))) [
  | inl digit ↦ is_at_most (get_or bytes i 0) digit
  | inr other ↦ absurd (true≢false (sym digits ∙ list_all_at is_ascii_digit bytes i 0 in_bytes other))
]
  where
    is_at_most : (byte : ℕ) → is_ascii_digit byte ≡ true → byte - 48 ≤ 9
    is_at_most byte digit = omega (arith, leb-true byte 57 (and_parts (nat_le 48 byte) (nat_le byte 57) digit).1)

-- n digits spell less than this power of ten
pub value_below : (bytes : List ℕ) (n : ℕ) → n ≤ length bytes → list_all is_ascii_digit bytes ≡ true → value_of (take n bytes) < 10 ^ n
value_below bytes zero within digits = omega (arith, value_of_none)
value_below bytes (suc n) within digits =
    let less = value_below bytes n (omega arith) digits in
    let more = value_of_more bytes n (omega arith) in
    let last = digit_at bytes n (omega arith) digits in
    let next : suc n ≡ n + 1 = omega arith in
    omega (arith, less, more, last, pow-suc 10 n, ap (λ (m : ℕ). value_of (take m bytes)) next)

pub ten_power_rises : (k j : ℕ) → 10 ^ k ≤ 10 ^ (k + j)
ten_power_rises k zero = let same : k + 0 ≡ k = omega arith in omega (arith, ap (λ (n : ℕ). 10 ^ n) same)
ten_power_rises k (suc j) = let next : k + suc j ≡ suc (k + j) = omega arith in omega (arith, ten_power_rises k j, ap (λ (n : ℕ). 10 ^ n) next, pow-suc 10 (k + j))

-- ---- many digits read together

and_twice : (a b c : Bool) → ((a && b) && (b && c)) ≡ (a && (b && c))
and_twice true true c = refl
and_twice true false c = refl
and_twice false b c = refl

-- a prefix and a suffix of digits, which meet, are all
pub digits_of_ends : (bytes : List ℕ) (n : ℕ) → n ≤ length bytes → length bytes ≤ n + n → (list_all is_ascii_digit (take n bytes) && list_all is_ascii_digit (take (length bytes - (length bytes - n)) (drop (length bytes - n) bytes))) ≡ list_all is_ascii_digit bytes
digits_of_ends bytes n within meet =
    let m = length bytes - n in
    let digits = list_all is_ascii_digit in
    let behind = drop (length bytes - n) bytes in
    let a = digits (take m bytes) in
    let b = digits (take (n - m) behind) in
    let c = digits (drop (n - m) behind) in
    let same : (length bytes - n) + (n - (length bytes - n)) ≡ n = omega arith in
    let front : digits (take n bytes) ≡ (a && b) =
    ap (λ (i : ℕ). digits (take i bytes)) (sym same) ∙ ap digits (take-add m (n - m) bytes) ∙ list_all-append is_ascii_digit (take m bytes) (take (n - m) behind) in
    let back : digits behind ≡ (b && c) =
    ap digits (sym (take-append-drop (n - m) behind)) ∙ list_all-append is_ascii_digit (take (n - m) behind) (drop (n - m) behind) in
    let whole : digits bytes ≡ (a && (b && c)) =
    ap digits (sym (take-append-drop m bytes)) ∙ list_all-append is_ascii_digit (take m bytes) behind ∙ ap (λ (t : Bool). a && t) back in
    let rest : take (length bytes - (length bytes - n)) behind ≡ behind = take_all (length bytes - (length bytes - n)) behind (omega (arith, length-drop (length bytes - n) bytes)) in
    ap (λ (l : List ℕ). digits (take n bytes) && digits l) rest ∙ ap (λ (t : Bool). t && digits behind) front ∙ ap (λ (t : Bool). (a && b) && t) back ∙ and_twice a b c ∙ sym whole

-- so few digits spell a number of 64 bits
pub few_digits_fit : (bytes : List ℕ) (i : ℕ) → i < length bytes → i < 19 → list_all is_ascii_digit bytes ≡ true → 10 * value_of (take i bytes) + (get_or bytes i 0 - 48) < 2 ^ 64
few_digits_fit bytes i within few digits =
    let less = value_below bytes (i + 1) (omega arith) digits in
    let rises = ten_power_rises (i + 1) (18 - i) in
    let same : (i + 1) + (18 - i) ≡ 19 = omega arith in
    omega (arith, less, rises, value_of_more bytes i within, ap (λ (n : ℕ). 10 ^ n) same)

-- a byte that is a digit among others is no less than the first digit
pub digit_is_high : (bytes : List ℕ) (i : ℕ) → i < length bytes → list_all is_ascii_digit bytes ≡ true → 48 ≤ get_or bytes i 0
digit_is_high bytes i in_bytes digits = elim (cases_Bool (is_ascii_digit (get_or bytes i 0))) [
  | inl digit ↦ leb-true 48 (get_or bytes i 0) (and_parts (nat_le 48 (get_or bytes i 0)) (nat_le (get_or bytes i 0) 57) digit).0
  | inr other ↦ absurd (true≢false (sym digits ∙ list_all_at is_ascii_digit bytes i 0 in_bytes other))
]

-- what digits spell, by all but the last
pub value_by_last : (bytes : List ℕ) → 0 < length bytes → value_of bytes ≡ 10 * value_of (take (length bytes - 1) bytes) + (get_or bytes (length bytes - 1) 0 - 48)
value_by_last bytes some =
    let same : (length bytes - 1) + 1 ≡ length bytes = omega arith in
    ap value_of (sym (take_all (length bytes) bytes (omega arith))) ∙ ap (λ (n : ℕ). value_of (take n bytes)) (sym same) ∙ value_of_more bytes (length bytes - 1) (omega arith)
