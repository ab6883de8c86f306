-- Lemmas on numbers that are joined two and two.
use Rattle.std.proofs.Common.{◌≡◌, ℕ, zero, suc, ◌+◌, ◌*◌, ◌/◌, ◌%◌, ◌^◌, ◌<◌, List, [], ◌∷◌, length, map, fold, pow-suc, slice_index, refl, ap, ◌∙◌, arith}
use Rattle.std.specs.Simd.Lanes.{number_l, digits_l}
use Rattle.sk_read.specs.Wide.{pairs, joined}

-- lanes as wide as two, and one step on each
module _ (base p pp : ℕ) (step : ℕ → ℕ)
    (one : (a b : ℕ) → a < base → b < base → step (a + p * b) ≡ base * a + b)
    (low : (a b rest : ℕ) → a < base → b < base → (a + p * (b + p * rest)) % pp ≡ a + p * b)
    (high : (a b rest : ℕ) → a < base → b < base → (a + p * (b + p * rest)) / pp ≡ rest) where
  stepped : (n : ℕ) (xs : List ℕ) → length xs ≡ n + n → ((k : ℕ) → slice_index xs k < base) → map step (digits_l pp n (number_l p xs)) ≡ pairs base xs
  unfolding pairs
  stepped zero [] size small = refl
  stepped zero (x ∷ xs) size small = absurd (omega (arith, size))
  stepped (suc n) [] size small = absurd (omega (arith, size))
  stepped (suc n) (x ∷ []) size small = absurd (omega (arith, size))
  stepped (suc n) (a ∷ b ∷ xs) size small =
      let al : a < base = small 0 in
      let bl : b < base = small 1 in
      ap (λ (m : ℕ). step m ∷ map step (digits_l pp n ((a + p * (b + p * number_l p xs)) / pp))) (low a b (number_l p xs) al bl)
      ∙ ap (λ (m : ℕ). m ∷ map step (digits_l pp n ((a + p * (b + p * number_l p xs)) / pp))) (one a b al bl)
      ∙ ap (λ (m : ℕ). (base * a + b) ∷ map step (digits_l pp n m)) (high a b (number_l p xs) al bl)
      ∙ ap (λ (l : List ℕ). (base * a + b) ∷ l) (stepped n xs (omega (arith, size)) (λ k. small (suc (suc k))))

pub by_two : (xs : List ℕ) → length xs ≡ 16 → ((k : ℕ) → slice_index xs k < 10)
    → map (λ y. y * 2561 % 65536 / 256) (digits_l 65536 8 (number_l 256 xs)) ≡ pairs 10 xs
by_two xs size small = stepped 10 256 65536 (λ y. y * 2561 % 65536 / 256)
    (λ a b al bl. omega arith) (λ a b rest al bl. omega arith) (λ a b rest al bl. omega arith) 8 xs size small

pub by_four : (xs : List ℕ) → length xs ≡ 8 → ((k : ℕ) → slice_index xs k < 100)
    → map (λ y. y * 6553601 % 4294967296 / 65536) (digits_l 4294967296 4 (number_l 65536 xs)) ≡ pairs 100 xs
by_four xs size small = stepped 100 65536 4294967296 (λ y. y * 6553601 % 4294967296 / 65536)
    (λ a b al bl. omega arith) (λ a b rest al bl. omega arith) (λ a b rest al bl. omega arith) 4 xs size small

-- ---- lanes read as wider ones

number_below : (xs : List ℕ) → ((k : ℕ) → slice_index xs k < 65536) → number_l 65536 xs < 65536 ^ length xs
number_below [] small = omega arith
number_below (x ∷ xs) small =
    let less = number_below xs (λ k. small (suc k)) in
    let here = small 0 in
    omega (arith, here, less, pow-suc 65536 (length xs))

number_of_digits : (n m : ℕ) → m < 256 ^ n → number_l 256 (digits_l 256 n m) ≡ m
number_of_digits zero m small = omega arith
number_of_digits (suc n) m small =
    let less : m / 256 < 256 ^ n = omega (arith, pow-suc 256 n) in
    omega (arith, number_of_digits n (m / 256) less)

pub by_four_of_bytes : (xs : List ℕ) → length xs ≡ 8 → ((k : ℕ) → slice_index xs k < 100)
    → map (λ y. y * 6553601 % 4294967296 / 65536) (digits_l 4294967296 4 (number_l 256 (digits_l 256 16 (number_l 65536 xs)))) ≡ pairs 100 xs
by_four_of_bytes xs size small =
    let below = number_below xs (λ k. omega (arith, small k)) in
    ap (λ (m : ℕ). map (λ (y : ℕ). y * 6553601 % 4294967296 / 65536) (digits_l 4294967296 4 m))
    (number_of_digits 16 (number_l 65536 xs) (omega (arith, below, ap (λ (n : ℕ). 65536 ^ n) size)))
    ∙ by_four xs size small

-- ---- what they are joined to

pub length_pairs : (base n : ℕ) (xs : List ℕ) → length xs ≡ n + n → length (pairs base xs) ≡ n
unfolding pairs
length_pairs base zero [] size = refl
length_pairs base zero (x ∷ xs) size = absurd (omega (arith, size))
length_pairs base (suc n) [] size = absurd (omega (arith, size))
length_pairs base (suc n) (x ∷ []) size = absurd (omega (arith, size))
length_pairs base (suc n) (a ∷ b ∷ xs) size = ap suc (length_pairs base n xs (omega (arith, size)))

module _ (base square : ℕ) (some : 0 < square) (close : (a b : ℕ) → a < base → b < base → base * a + b < square) where
  small_pairs : (xs : List ℕ) → ((k : ℕ) → slice_index xs k < base) → (k : ℕ) → slice_index (pairs base xs) k < square
  unfolding pairs
  small_pairs [] small k = some
  small_pairs (x ∷ []) small k = some
  small_pairs (a ∷ b ∷ xs) small zero = close a b (small 0) (small 1)
  small_pairs (a ∷ b ∷ xs) small (suc k) = small_pairs xs (λ i. small (suc (suc i))) k

pub small_twos : (xs : List ℕ) → ((k : ℕ) → slice_index xs k < 10) → (k : ℕ) → slice_index (pairs 10 xs) k < 100
small_twos = small_pairs 10 100 (omega arith) (λ a b al bl. omega arith)

pub small_fours : (xs : List ℕ) → ((k : ℕ) → slice_index xs k < 100) → (k : ℕ) → slice_index (pairs 100 xs) k < 10000
small_fours = small_pairs 100 10000 (omega arith) (λ a b al bl. omega arith)

module _ (base square : ℕ) (same : (v a b : ℕ) → base * (base * v + a) + b ≡ square * v + (base * a + b)) where
  fold_pairs : (v n : ℕ) (xs : List ℕ) → length xs ≡ n + n → fold (λ value number. base * value + number) v xs ≡ fold (λ value number. square * value + number) v (pairs base xs)
  unfolding pairs
  fold_pairs v zero [] size = refl
  fold_pairs v zero (x ∷ xs) size = absurd (omega (arith, size))
  fold_pairs v (suc n) [] size = absurd (omega (arith, size))
  fold_pairs v (suc n) (x ∷ []) size = absurd (omega (arith, size))
  fold_pairs v (suc n) (a ∷ b ∷ xs) size =
      ap (λ (u : ℕ). fold (λ value number. base * value + number) u xs) (same v a b) ∙ fold_pairs (square * v + (base * a + b)) n xs (omega (arith, size))

last_joined : (xs : List ℕ) → length xs ≡ 4 → fold (λ value number. 10000 * value + number) 0 xs ≡ (slice_index xs 0 * 10000 + slice_index xs 1) * 100000000 + (slice_index xs 2 * 10000 + slice_index xs 3)
last_joined (a ∷ b ∷ c ∷ d ∷ []) size = omega arith
last_joined [] size = absurd (omega (arith, size))
last_joined (a ∷ []) size = absurd (omega (arith, size))
last_joined (a ∷ b ∷ []) size = absurd (omega (arith, size))
last_joined (a ∷ b ∷ c ∷ []) size = absurd (omega (arith, size))
last_joined (a ∷ b ∷ c ∷ d ∷ e ∷ xs) size = absurd (omega (arith, size))

pub joined_by_fours : (xs : List ℕ) → length xs ≡ 16
    → joined 10 xs ≡ (slice_index (pairs 100 (pairs 10 xs)) 0 * 10000 + slice_index (pairs 100 (pairs 10 xs)) 1) * 100000000 + (slice_index (pairs 100 (pairs 10 xs)) 2 * 10000 + slice_index (pairs 100 (pairs 10 xs)) 3)
unfolding joined
joined_by_fours xs size =
    let eight = length_pairs 10 8 xs size in
    fold_pairs 10 100 (λ v a b. omega arith) 0 8 xs size ∙ fold_pairs 100 10000 (λ v a b. omega arith) 0 4 (pairs 10 xs) eight
    ∙ last_joined (pairs 100 (pairs 10 xs)) (length_pairs 100 4 (pairs 10 xs) eight)
