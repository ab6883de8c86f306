-- What the digits of a number are, and what they spell.
use Rattle.std.proofs.Common.{◌≡◌, ◌≢◌, inl, ℕ, ◌+◌, ◌-◌, ◌*◌, ◌/◌, ◌%◌, ◌^◌, ◌<◌, ◌≤◌, ◌&&◌, Bool, true, List, [], ◌∷◌, ◌++◌, length, take, get_or, Some, decimal, fold, refl, sym, ap, ◌∙◌, arith, ne_eqb, cond}
use Rattle.std.specs.Char.{is_ascii_digit}
use Rattle.std.specs.List.{list_all}
use Rattle.std.specs.Str.Lines.{strip_carriage_return}
use Rattle.std.proofs.lemmas.Fmt.{decimal_by_steps, decimal_nonempty, length-decimal-le}
use Rattle.std.proofs.lemmas.List.Sums.{fold-append, AllPass-from_list_all}
use Rattle.std.proofs.lemmas.List.Folds.{list_all-append}
use Rattle.sk_model.specs.Numbers.{value_of, number_of}
use Rattle.sk_model.specs.Width.{number_end}
use Rattle.sk_model.proofs.Lines.{HasNoLf}
use Rattle.sk_lines.proofs.Digits.{length_decimal, number_by_digits}
use Rattle.sk_make.specs.Made.{made_end}

-- these digits spell the number
record Spells (n : ℕ) (digits : List ℕ) : Type 0 where
  value : value_of digits ≡ n
  digits_only : list_all is_ascii_digit digits ≡ true

digit_passes : (d : ℕ) → d < 10 → is_ascii_digit (48 + d) ≡ true
digit_passes d small = grind arith

spells_one : (n : ℕ) → n < 10 → Spells n ((48 + n) ∷ [])
unfolding value_of
spells_one n small = record { value = omega arith; digits_only = ap (λ (b : Bool). b && true) (digit_passes n small) }

spells_more : (n : ℕ) (digits : List ℕ) → 10 ≤ n → Spells (n / 10) digits → Spells n (digits ++ ((48 + n % 10) ∷ []))
unfolding value_of
spells_more n digits most front =
    let step = λ (value : ℕ) (digit : ℕ). 10 * value + (digit - 48) in
    let before : fold step 0 digits ≡ n / 10 = front.value in
    record {
      value = fold-append step 0 digits ((48 + n % 10) ∷ []) ∙ ap (λ (v : ℕ). 10 * v + (48 + n % 10 - 48)) before ∙ (omega arith);
      digits_only = list_all-append is_ascii_digit digits ((48 + n % 10) ∷ []) ∙ ap (λ (b : Bool). b && (is_ascii_digit (48 + n % 10) && true)) front.digits_only
          ∙ ap (λ (b : Bool). b && true) (digit_passes (n % 10) (omega arith));
    }

spells : (n : ℕ) → n < 2 ^ 64 → Spells n (decimal n)
spells n small = decimal_by_steps Spells spells_one spells_more n small

not_lf : (b : ℕ) → is_ascii_digit b ≡ true → b ≢ 10
not_lf b is = λ same. absurd (grind arith)

not_cr : (b : ℕ) → is_ascii_digit b ≡ true → b ≢ 13
not_cr b is = λ same. absurd (grind arith)

pub digits_have_no_lf : (n : ℕ) → n < 2 ^ 64 → HasNoLf (decimal n)
digits_have_no_lf n small k d there = not_lf (get_or (decimal n) k d) (AllPass-from_list_all is_ascii_digit (decimal n) (spells n small).digits_only k d there)

pub digits_stay : (n : ℕ) → n < 2 ^ 64 → strip_carriage_return (decimal n) ≡ decimal n
digits_stay n small =
    let some = decimal_nonempty n small in
    let other : get_or (decimal n) (length (decimal n) - 1) 0 ≢ 13 =
    not_cr (get_or (decimal n) (length (decimal n) - 1) 0) (AllPass-from_list_all is_ascii_digit (decimal n) (spells n small).digits_only (length (decimal n) - 1) 0 (omega (arith, some))) in
    ap (λ (b : Bool). cond b (take (length (decimal n) - 1) (decimal n)) (decimal n)) (ne_eqb (get_or (decimal n) (length (decimal n) - 1) 0) 13 other)

pub digits_are_few : (n : ℕ) → n < made_end → length (decimal n) ≤ 15
digits_are_few n small = length-decimal-le 15 n (omega arith) (omega arith) (omega arith)

-- the greatest number that is read has more digits
most_digits : length (decimal (number_end - 1)) ≡ 19
most_digits = sym (length_decimal 18 (number_end - 1) (number_end - 1) (omega arith) (inl refl) (omega arith) (omega arith))

pub digits_are_read : (n : ℕ) → n < made_end → number_of number_end (decimal n) ≡ Some n
digits_are_read n small =
    let is = spells n (omega arith) in
    sym (number_by_digits number_end (decimal n) is.digits_only (decimal_nonempty n (omega arith)) (omega (arith, digits_are_few n small, most_digits)) (omega (arith, is.value)))
    ∙ ap (λ (m : ℕ). Some m) is.value
