-- Numbers without leading zeros.
use Rattle.std.proofs.Common.{◌≡◌, ℕ, zero, suc, ◌+◌, ◌-◌, ◌*◌, ◌/◌, ◌%◌, ◌^◌, ◌<◌, ◌≤◌, Bool, true, ◌&&◌, nat_lt, nat_le, cond, inl, inr, List, [], ◌∷◌, length, get_or, Option, Some, None, IfSome, fold, decimal, refl, sym, ap, ◌∙◌, arith, rules, length-append, pow-suc}
use Rattle.std.specs.List.{list_all}
use Rattle.std.specs.Char.{is_ascii_digit}
use Rattle.std.proofs.lemmas.Bool.{cases_lt, and_parts, ltb-true, lt-ltb, le-leb}
use Rattle.std.proofs.lemmas.Option.{cond_some}
use Rattle.std.proofs.lemmas.Str.Parse.{IsNumeralModel, IsDigitsTest, FoldsDigits, numerals_by_fold}
use Rattle.std.proofs.lemmas.Fmt.{decimal_digit, decimal_step, decimal_nonempty, first_decimal, digits_decimal, digits_value-decimal, decimal-digits_value}
use Rattle.sk_model.specs.Numbers.{value_of, number_of}

test : IsDigitsTest (λ ds. list_all is_ascii_digit ds ≡ true)
test = search rules

folds : FoldsDigits (λ n ds. fold (λ value digit. 10 * value + (digit - 48)) n ds)
folds = record {
  empty = λ n. refl;
  more = λ n c cs is. let e : 10 * n + (c - 48) ≡ n * 10 + (c - 48) = omega arith in ap (λ (m : ℕ). fold (λ value digit. 10 * value + (digit - 48)) m cs) e;
}

own : IsNumeralModel (λ ds. list_all is_ascii_digit ds ≡ true) value_of
unfolding value_of
own = numerals_by_fold (λ ds. list_all is_ascii_digit ds ≡ true) test (λ n ds. fold (λ value digit. 10 * value + (digit - 48)) n ds) folds

-- a number has no more digits than a greater one
no_longer : (k m n : ℕ) → m ≤ n → n < 10 ^ k → n < 2 ^ 64 → length (decimal m) ≤ length (decimal n)
no_longer zero m n le few small =
    let same : m ≡ n = omega (arith, le, few) in
    omega (arith, ap (λ (x : ℕ). length (decimal x)) same)
no_longer (suc k) m n le few small = elim (cases_lt n 10) [
  | inl low ↦ omega (arith, ap length (decimal_digit n low), ap length (decimal_digit m (omega (arith, le, low))))
  | inr high ↦
      let long = ap length (decimal_step n high small) ∙ length-append (decimal (n / 10)) ((48 + n % 10) ∷ []) in
      elim (cases_lt m 10) [
        | inl low ↦ omega (arith, ap length (decimal_digit m low), long)
        | inr high' ↦
            let up : 10 ^ suc k ≡ 10 * 10 ^ k = omega (arith, pow-suc 10 k) in
            let long' = ap length (decimal_step m high' (omega (arith, le, small))) ∙ length-append (decimal (m / 10)) ((48 + m % 10) ∷ []) in
            omega (arith, long, long', no_longer k (m / 10) (n / 10) (omega (arith, le)) (omega (arith, few, up)) (omega (arith, small)))
      ]
]

all_hold : (a b c d : Bool) (x : ℕ) → a ≡ true → b ≡ true → c ≡ true → d ≡ true → cond (a && b && c && d) (Some x) None ≡ Some x
all_hold a b c d x ea eb ec ed =
    ap (λ t. cond (t && b && c && d) (Some x) None) ea ∙ ap (λ t. cond (t && c && d) (Some x) None) eb ∙ ap (λ t. cond (t && d) (Some x) None) ec ∙ ap (λ t. cond t (Some x) None) ed

-- the digits of a number below an end are read as it
pub decimal_is_read : (end n : ℕ) (bytes : List ℕ) → end < 2 ^ 64 → n < end → bytes ≡ decimal n → number_of end bytes ≡ Some n
unfolding number_of
decimal_is_read end n bytes fits small is =
    let fits' : n < 2 ^ 64 = omega (arith, fits, small) in
    let value : value_of (decimal n) ≡ n = digits_value-decimal own n fits' in
    let long = no_longer 20 n (end - 1) (omega (arith, small)) (omega (arith, fits)) (omega (arith, fits)) in
    ap (number_of end) is
    ∙ all_hold (list_all is_ascii_digit (decimal n)) (nat_lt 0 (length (decimal n))) (nat_le (length (decimal n)) (length (decimal (end - 1)))) (nat_lt (value_of (decimal n)) end) (value_of (decimal n))
    (digits_decimal own n fits') (lt-ltb 0 (length (decimal n)) (decimal_nonempty n fits')) (le-leb (length (decimal n)) (length (decimal (end - 1))) long) (lt-ltb (value_of (decimal n)) end (omega (arith, value, small)))
    ∙ ap (λ (m : ℕ). Some m) value

-- what is read without a leading zero is that number's digits
pub read_is_decimal : (end n : ℕ) (bytes : List ℕ) → end < 2 ^ 64 → (get_or bytes 0 0 ≡ 48 → length bytes ≡ 1) → number_of end bytes ≡ Some n → (n < end) × (bytes ≡ decimal n)
unfolding number_of
read_is_decimal end n bytes fits plain is =
    let digits = list_all is_ascii_digit bytes in
    let some = nat_lt 0 (length bytes) in
    let few = nat_le (length bytes) (length (decimal (end - 1))) in
    let below = nat_lt (value_of bytes) end in
    let parts = cond_some (digits && some && few && below) (value_of bytes) n is in
    let last = and_parts (digits && some && few) below parts.0 in
    let rest = and_parts (digits && some) few last.0 in
    let first = and_parts digits some rest.0 in
    let small : value_of bytes < end = ltb-true (value_of bytes) end last.1 in
    (omega (arith, small, parts.1), sym (decimal-digits_value own bytes first.0 (ltb-true 0 (length bytes) first.1) plain (omega (arith, small, fits))) ∙ ap decimal parts.1)

-- no number of more than one digit begins by zero
pub no_leading_zero : (n : ℕ) (bytes : List ℕ) → n < 2 ^ 64 → bytes ≡ decimal n → 1 < length bytes → get_or bytes 0 0 ≡ 48 → ⊥
no_leading_zero n bytes small is long zero_first = elim (cases_lt 0 n) [
  | inl some ↦ absurd (omega (arith, first_decimal n some small, ap (λ (l : List ℕ). get_or l 0 0) is, zero_first))
  | inr none ↦ absurd (omega (arith, long, ap length is, ap length (decimal_digit n (omega (arith, none)))))
]

pub number_below : (end : ℕ) (bytes : List ℕ) (r : Option ℕ) → r ≡ number_of end bytes → IfSome r (λ n. n < end)
unfolding number_of
number_below end bytes None is = tt
number_below end bytes (Some n) is =
    let digits = list_all is_ascii_digit bytes in
    let some = nat_lt 0 (length bytes) in
    let few = nat_le (length bytes) (length (decimal (end - 1))) in
    let below = nat_lt (value_of bytes) end in
    let parts = cond_some (digits && some && few && below) (value_of bytes) n (sym is) in
    let small : value_of bytes < end = ltb-true (value_of bytes) end (and_parts (digits && some && few) below parts.0).1 in
    omega (arith, small, parts.1)

pub some_digit : (bytes : List ℕ) → get_or bytes 0 0 ≡ 48 → 1 ≤ length bytes
some_digit [] is = absurd (omega (arith, is))
some_digit (b ∷ bytes) is = omega arith
