-- Lemmas on the numbers that digits spell: few of them, 19, and those that are read in parts.
use Rattle.std.proofs.Common.{◌≡◌, ℕ, zero, suc, ◌+◌, ◌-◌, ◌*◌, ◌^◌, ◌<◌, ◌≤◌, Bool, true, false, cond, inl, inr, List, [], ◌∷◌, ◌++◌, length, take, get_or, Some, None, fold, decimal, sym, ap, ◌∙◌, arith, pow-suc, take_all}
use Rattle.std.specs.List.{list_all}
use Rattle.std.specs.Char.{is_ascii_digit}
use Rattle.std.proofs.lemmas.List.Sums.{fold-append}
use Rattle.std.proofs.lemmas.Bool.{cases_Bool}
use Rattle.sk_model.specs.Numbers.{value_of, number_of}
use Rattle.sk_lines.proofs.Digits.{number_by_digits, value_of_none, value_of_more, digit_at, value_below, ten_power_rises}
use Rattle.sk_read.specs.Wide.{spelled}

-- ---- few digits

-- a few digits spell a number below an end that is at or above the power of ten
pub few_digits : (end most : ℕ) (bytes : List ℕ) → 10 ^ most ≤ end → most ≤ length (decimal (end - 1)) → 0 < length bytes → length bytes ≤ most → list_all is_ascii_digit bytes ≡ true → Some (value_of bytes) ≡ number_of end bytes
few_digits end most bytes high long some few digits =
    let whole = ap value_of (take_all (length bytes) bytes (omega arith)) in
    let less = value_below bytes (length bytes) (omega arith) digits in
    let rises = ten_power_rises (length bytes) (most - length bytes) in
    let same : length bytes + (most - length bytes) ≡ most = omega arith in
    number_by_digits end bytes digits some (omega arith) (omega (arith, whole, less, rises, ap (λ (n : ℕ). 10 ^ n) same))

-- ---- 19 digits

below_nine : (bytes : List ℕ) (n : ℕ) → n < length bytes → list_all is_ascii_digit bytes ≡ true → get_or bytes 0 0 < 57 → value_of (take (n + 1) bytes) < 9 * 10 ^ n
below_nine bytes zero within digits first = omega (arith, first, value_of_more bytes 0 within, value_of_none)
below_nine bytes (suc n) within digits first =
    let less = below_nine bytes n (omega arith) digits first in
    let next : suc n ≡ n + 1 = omega arith in
    omega (arith, less, value_of_more bytes (suc n) within, digit_at bytes (suc n) within digits, pow-suc 10 n, ap (λ (m : ℕ). value_of (take m bytes)) next)

-- 19 digits spell a number below an end that has as many, if the first of them is below 9 and the end is not
pub nineteen_digits : (end : ℕ) (bytes : List ℕ) → 9 * 10 ^ 18 ≤ end → 19 ≤ length (decimal (end - 1)) → length bytes ≡ 19 → get_or bytes 0 0 < 57 → list_all is_ascii_digit bytes ≡ true → Some (value_of bytes) ≡ number_of end bytes
nineteen_digits end bytes high long many first digits =
    let whole = ap value_of (take_all 19 bytes (omega arith)) in
    number_by_digits end bytes digits (omega arith) (omega arith) (omega (arith, whole, high, below_nine bytes 18 (omega arith) digits first))

-- ---- digits in parts

fold_from : (value : ℕ) (bytes : List ℕ) → fold (λ value digit. 10 * value + (digit - 48)) value bytes ≡ value * 10 ^ length bytes + fold (λ value digit. 10 * value + (digit - 48)) 0 bytes
fold_from value [] = omega arith
fold_from value (x ∷ xs) =
    let more = fold_from (10 * value + (x - 48)) xs in
    let first = fold_from (10 * 0 + (x - 48)) xs in
    omega (arith, more, first, ap (λ (p : ℕ). value * p) (pow-suc 10 (length xs)))

pub value_of_parts : (front behind : List ℕ) → value_of (front ++ behind) ≡ value_of front * 10 ^ length behind + value_of behind
unfolding value_of
value_of_parts front behind =
    fold-append (λ (value : ℕ) (digit : ℕ). 10 * value + (digit - 48)) 0 front behind ∙ fold_from (fold (λ (value : ℕ) (digit : ℕ). 10 * value + (digit - 48)) 0 front) behind

-- ---- what bytes spell if they are digits

module _ (bytes : List ℕ) where
  pub spelled_by_digits : list_all is_ascii_digit bytes ≡ true → Some (value_of bytes) ≡ spelled bytes
  spelled_by_digits digits = sym (ap (λ (b : Bool). cond b (Some (value_of bytes)) None) digits)

  pub spelled_by_other : list_all is_ascii_digit bytes ≡ false → None ≡ spelled bytes
  spelled_by_other other = sym (ap (λ (b : Bool). cond b (Some (value_of bytes)) None) other)

  pub none_spelled : None ≡ spelled bytes → list_all is_ascii_digit bytes ≡ false
  none_spelled none = elim (cases_Bool (list_all is_ascii_digit bytes)) [
    | inl digits ↦ let other : Some (value_of bytes) ≡ None = spelled_by_digits digits ∙ sym none in absurd cc
    | inr other ↦ other
  ]

  pub some_spelled : (value : ℕ) → Some value ≡ spelled bytes → (list_all is_ascii_digit bytes ≡ true) × (value ≡ value_of bytes)
  some_spelled value some = elim (cases_Bool (list_all is_ascii_digit bytes)) [
    | inl digits ↦ let same : Some value ≡ Some (value_of bytes) = some ∙ sym (spelled_by_digits digits) in (digits, cc)
    | inr other ↦ let none : Some value ≡ None = some ∙ sym (spelled_by_other other) in absurd cc
  ]
