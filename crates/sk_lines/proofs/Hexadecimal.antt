-- Lemmas on hashes as hexadecimal digits.
use Rattle.std.proofs.Common.{◌≡◌, ℕ, zero, suc, ◌+◌, ◌*◌, ◌^◌, ◌<◌, ◌≤◌, ◌/◌, ◌%◌, nat_lt, cond, inl, inr, List, [], ◌∷◌, ◌++◌, length, take, drop, set, get_or, All, refl, sym, ap, ◌∙◌, arith, append_assoc, length-append, pow-suc}
use Rattle.std.proofs.Math.Nat.{pow-le-pow_right}
use Rattle.std.proofs.lemmas.Bool.{cases_lt, cond_both, ltb-true, lt-ltb, le-ltb}
use Rattle.std.proofs.lemmas.List.{drop_all, drop-append-le, get_or_append_left, get_or_at, same_from_push, take_more}
use Rattle.std.proofs.lemmas.List.Elements.{All-nil, All-push}
use Rattle.sk_lines.specs.Hashes.{hex, hex_digit}

pub hex_more : (width n : ℕ) → hex (width + 1) n ≡ hex width (n / 16) ++ hex_digit (n % 16) ∷ []
unfolding hex
hex_more width n =
    let more : width + 1 ≡ suc width = omega arith in
    ap (λ (w : ℕ). hex w n) more

pub length_hex : (width n : ℕ) → length (hex width n) ≡ width
unfolding hex
length_hex zero n = refl
length_hex (suc width) n = omega (arith, length-append (hex width (n / 16)) (hex_digit (n % 16) ∷ []), length_hex width (n / 16))

pub no_hex : (n : ℕ) → hex 0 n ≡ []
unfolding hex
no_hex n = refl

pub drop-set_here : (l : List ℕ) (i x : ℕ) → i < length l → drop i (set l i x) ≡ x ∷ drop (i + 1) l
drop-set_here [] i x below = absurd (omega arith)
drop-set_here (y ∷ l) zero x below = refl
drop-set_here (y ∷ l) (suc i) x below =
    let more : suc i + 1 ≡ suc (i + 1) = omega arith in
    drop-set_here l i x (omega arith) ∙ ap (λ (n : ℕ). x ∷ drop n (y ∷ l)) (sym more)

-- one digit more stands in its place
pub digit_more : (line : List ℕ) (place rest : ℕ) → place < length line →
    hex (place + 1) rest ++ drop (place + 1) line ≡ hex place (rest / 16) ++ drop place (set line place (hex_digit (rest % 16)))
digit_more line place rest below =
    ap (λ (l : List ℕ). l ++ drop (place + 1) line) (hex_more place rest)
    ∙ append_assoc (hex place (rest / 16)) (hex_digit (rest % 16) ∷ []) (drop (place + 1) line)
    ∙ ap (λ (l : List ℕ). hex place (rest / 16) ++ l) (sym (drop-set_here line place (hex_digit (rest % 16)) below))

-- each place has a digit
pub hex_at : (width n i : ℕ) → i < width → (d : ℕ) × (d < 16) × (get_or (hex width n) i 0 ≡ hex_digit d)
unfolding hex
hex_at zero n i below = absurd (omega (arith, below))
hex_at (suc width) n i below = elim (cases_lt i width) [
  | inl front ↦
      let there = hex_at width (n / 16) i front in
      (there.0, there.1, get_or_append_left (hex width (n / 16)) (hex_digit (n % 16) ∷ []) 0 i (omega (arith, front, length_hex width (n / 16))) ∙ there.2)
  | inr back ↦
      (n % 16, omega arith, get_or_at (hex width (n / 16)) (hex_digit (n % 16)) [] 0 i (omega (arith, below, back, length_hex width (n / 16))))
]

-- one digit more after a number
pub hex_push : (line : List ℕ) (i n digit : ℕ) → i < length line → digit < 16 → take i line ≡ hex i n → get_or line i 0 ≡ hex_digit digit → take (i + 1) line ≡ hex (i + 1) (n * 16 + digit)
hex_push line i n digit below small front here =
    let high : (n * 16 + digit) / 16 ≡ n = omega (arith, small) in
    let low : (n * 16 + digit) % 16 ≡ digit = omega (arith, small) in
    take_more line i 0 below ∙ ap (λ (l : List ℕ). l ++ get_or line i 0 ∷ []) front ∙ ap (λ (d : ℕ). hex i n ++ d ∷ []) here
    ∙ sym (hex_more i (n * 16 + digit) ∙ ap (λ (m : ℕ). hex i m ++ hex_digit ((n * 16 + digit) % 16) ∷ []) high ∙ ap (λ (d : ℕ). hex i n ++ hex_digit d ∷ []) low)

-- a number of fewer than 16 digits has room for one more: before it is multiplied
pub room_for_digit : (i n : ℕ) → i < 16 → n < 16 ^ i → n < 16 ^ 15
room_for_digit i n below small = omega (arith, small, pow-le-pow_right {n = 16} (omega arith) {i = i} {j = 15} (omega (arith, below)))

pow-suc-16 : (i : ℕ) → 16 ^ suc i ≡ 16 * 16 ^ i
pow-suc-16 i = omega (arith, pow-suc 16 i)

pub more_digits_small : (i n digit : ℕ) → digit < 16 → n < 16 ^ i → n * 16 + digit < 16 ^ (i + 1)
more_digits_small i n digit small few =
    let up : 16 ^ (i + 1) ≡ 16 * 16 ^ i = let e : i + 1 ≡ suc i = omega arith in ap (λ (j : ℕ). 16 ^ j) e ∙ pow-suc-16 i in
    omega (arith, small, few, up)

-- and once it is added
pub room_for_last : (i n digit : ℕ) → i < 16 → digit < 16 → n < 16 ^ i → n * 16 + digit < 2 ^ 64
room_for_last i n digit below small few =
    omega (arith, more_digits_small i n digit small few, pow-le-pow_right {n = 16} (omega arith) {i = i + 1} {j = 16} (omega (arith, below)))

-- between the least digit and the greatest, so neither LF nor a blank nor `n`
pub digit_from : (d : ℕ) → 48 ≤ hex_digit d
digit_from d = cond_both (nat_lt d 10) (48 + d) (87 + d) (λ x. 48 ≤ x) (λ _. omega arith) (λ _. omega arith)

pub digit_to : (d : ℕ) → d < 16 → hex_digit d ≤ 102
digit_to d small = cond_both (nat_lt d 10) (48 + d) (87 + d) (λ x. x ≤ 102) (λ e. omega (arith, ltb-true d 10 e)) (λ _. omega (arith, small))

pub low_digit : (d : ℕ) → d < 10 → hex_digit d ≡ 48 + d
low_digit d low = ap (λ b. cond b (48 + d) (87 + d)) (lt-ltb d 10 low)

pub high_digit : (d : ℕ) → 10 ≤ d → hex_digit d ≡ 87 + d
high_digit d high = ap (λ b. cond b (48 + d) (87 + d)) (le-ltb d 10 high)

pub digit_injective : (a b : ℕ) → a < 16 → b < 16 → hex_digit a ≡ hex_digit b → a ≡ b
digit_injective a b sa sb e = elim (cases_lt a 10) [
  | inl la ↦ elim (cases_lt b 10) [
    | inl lb ↦ omega (arith, low_digit a la, low_digit b lb, e)
    | inr hb ↦ absurd (omega (arith, low_digit a la, high_digit b hb, e))
  ]
  | inr ha ↦ elim (cases_lt b 10) [
    | inl lb ↦ absurd (omega (arith, high_digit a ha, low_digit b lb, e))
    | inr hb ↦ omega (arith, high_digit a ha, high_digit b hb, e)
  ]
]

pub hex_digits : (width n : ℕ) → All (λ byte. (48 ≤ byte) × (byte ≤ 102)) (hex width n)
unfolding hex
hex_digits zero n = All-nil (λ byte. (48 ≤ byte) × (byte ≤ 102))
hex_digits (suc width) n =
    All-push (λ byte. (48 ≤ byte) × (byte ≤ 102)) (hex width (n / 16)) (hex_digit (n % 16)) (hex_digits width (n / 16)) (digit_from (n % 16), digit_to (n % 16) (omega arith))

pub hex_injective : (width a b : ℕ) → a < 16 ^ width → b < 16 ^ width → hex width a ≡ hex width b → a ≡ b
unfolding hex
hex_injective zero a b sa sb e = omega (arith, sa, sb)
hex_injective (suc width) a b sa sb e =
    let parts = same_from_push (hex width (a / 16)) (hex width (b / 16)) (hex_digit (a % 16)) (hex_digit (b % 16)) e in
    let up : 16 ^ suc width ≡ 16 * 16 ^ width = omega (arith, pow-suc 16 width) in
    let high : a / 16 ≡ b / 16 = hex_injective width (a / 16) (b / 16) (omega (arith, sa, up)) (omega (arith, sb, up)) parts.0 in
    let low : a % 16 ≡ b % 16 = digit_injective (a % 16) (b % 16) (omega arith) (omega arith) parts.1 in
    omega (arith, high, low)

-- without the first of a number's digits, its last ones are left
pub hex_last : (width more n : ℕ) → drop more (hex (more + width) n) ≡ hex width n
unfolding hex
hex_last zero more n = drop_all more (hex (more + 0) n) (omega (arith, length_hex (more + 0) n))
hex_last (suc width) more n =
    let next : more + suc width ≡ suc (more + width) = omega arith in
    ap (λ (w : ℕ). drop more (hex w n)) next
    ∙ drop-append-le more (hex (more + width) (n / 16)) (hex_digit (n % 16) ∷ []) (omega (arith, length_hex (more + width) (n / 16)))
    ∙ ap (λ (l : List ℕ). l ++ hex_digit (n % 16) ∷ []) (hex_last width more (n / 16))
