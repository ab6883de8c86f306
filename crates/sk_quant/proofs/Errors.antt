-- Lemmas on the terms of the error.
use Rattle.std.proofs.Common.{◌≡◌, ℕ, zero, suc, ◌+◌, ◌-◌, ◌*◌, ◌/◌, ◌%◌, ◌^◌, ◌<◌, ◌≤◌, ⊎_elim, refl, sym, ap, ◌∙◌, arith, pow-suc, pow_mono, div-one, div-le_self, div-mul-le_self, mod-eq_of_lt, mul_comm}
use Rattle.std.proofs.Math.Nat.{div-div-eq-div-mul, div-eq_of_lt, mul-div-le}
use Rattle.std.proofs.lemmas.Bool.{cases_lt}
use Rattle.sk_quant.specs.Limits.{most_items}
use Rattle.sk_quant.specs.Ranks.{compactions, error_terms, rank_error}

-- the terms of a number of compactions of the base
unfoldable pub terms : ℕ → ℕ → ℕ
terms m zero = 0
terms m (suc l) = terms m l + 2 ^ l * (m / 2 ^ l)

pub error_terms-is : (n k l : ℕ) → error_terms n k l ≡ terms (n / (2 * k)) l
unfolding error_terms terms
error_terms-is n k zero = refl
error_terms-is n k (suc l) =
    ap (λ (e : ℕ). e + 2 ^ l * (n / (2 * k * 2 ^ l))) (error_terms-is n k l)
    ∙ ap (λ (q : ℕ). terms (n / (2 * k)) l + 2 ^ l * q) (sym (div-div-eq-div-mul n (2 * k) (2 ^ l)))

-- how many compactions, of this many of the base
unfoldable pub counts : ℕ → ℕ → ℕ
counts m zero = 0
counts m (suc l) = counts m l + m / 2 ^ l

pub compactions-is : (n k l : ℕ) → compactions n k l ≡ counts (n / (2 * k)) l
unfolding compactions counts
compactions-is n k zero = refl
compactions-is n k (suc l) =
    ap (λ (c : ℕ). c + n / (2 * k * 2 ^ l)) (compactions-is n k l) ∙ ap (λ (q : ℕ). counts (n / (2 * k)) l + q) (sym (div-div-eq-div-mul n (2 * k) (2 ^ l)))

pub counts-suc : (m l : ℕ) → counts m (suc l) ≡ m + counts (m / 2) l
unfolding counts
counts-suc m zero = omega (arith, div-one m)
counts-suc m (suc l) =
    let power : 2 ^ suc l ≡ 2 * 2 ^ l = omega (arith, pow-suc 2 l) in
    let whole : m / 2 ^ suc l ≡ m / 2 / 2 ^ l = ap (λ (p : ℕ). m / p) power ∙ sym (div-div-eq-div-mul m 2 (2 ^ l)) in
    omega (arith, counts-suc m l, whole)

counts-bound : (m l most : ℕ) → m ≤ most → counts m l ≤ l * most
unfolding counts
counts-bound m zero most le = omega arith
counts-bound m (suc l) most le = omega (arith, counts-bound m l most le, div-le_self m (2 ^ l))

pub compactions_are_few : (n k l : ℕ) → n ≤ most_items → compactions n k l ≤ l * most_items
compactions_are_few n k l few = omega (arith, compactions-is n k l, counts-bound (n / (2 * k)) l most_items (omega (arith, div-le_self n (2 * k))))

-- all but the first term are those of half as many, doubled
pub terms-suc : (m l : ℕ) → terms m (suc l) ≡ m + 2 * terms (m / 2) l
unfolding terms
terms-suc m zero = omega (arith, div-one m)
terms-suc m (suc l) =
    let q = m / 2 / 2 ^ l in
    let power : 2 ^ suc l ≡ 2 * 2 ^ l = omega (arith, pow-suc 2 l) in
    let whole : 2 ^ suc l * (m / 2 ^ suc l) ≡ 2 * (2 ^ l * q) =
    ap (λ (p : ℕ). p * (m / p)) power ∙ ap (λ (r : ℕ). 2 * 2 ^ l * r) (sym (div-div-eq-div-mul m 2 (2 ^ l))) ∙ omega arith in
    omega (arith, terms-suc m l, whole)

terms_past : (m l more : ℕ) → m < 2 ^ l → terms m (l + more) ≡ terms m l
unfolding terms
terms_past m l zero less = ap (λ (n : ℕ). terms m n) (omega arith)
terms_past m l (suc more) less =
    let none : m / 2 ^ (l + more) ≡ 0 = div-eq_of_lt (omega (arith, pow_mono {i = l} {j = l + more} (omega arith))) in
    let next : l + suc more ≡ suc (l + more) = omega arith in
    ap (λ (n : ℕ). terms m n) next ∙ ap (λ (q : ℕ). terms m (l + more) + 2 ^ (l + more) * q) none ∙ omega (arith, terms_past m l more less)

terms_same : (m a b : ℕ) → m < 2 ^ a → m < 2 ^ b → terms m a ≡ terms m b
terms_same m a b less_a less_b = ⊎_elim
    (λ less. let is : a + (b - a) ≡ b = omega arith in sym (terms_past m a (b - a) less_a) ∙ ap (λ (n : ℕ). terms m n) is)
    (λ le. let is : b + (a - b) ≡ a = omega arith in ap (λ (n : ℕ). terms m n) (sym is) ∙ terms_past m b (a - b) less_b) (cases_lt a b)

less_than_power : (n : ℕ) → n < 2 ^ n
less_than_power zero = omega arith
less_than_power (suc n) = omega (arith, less_than_power n, pow-suc 2 n)

-- from some place on the terms add nothing
pub error_terms_all : (n k l : ℕ) → n < 2 ^ l → error_terms n k l ≡ rank_error n k
error_terms_all n k l less =
    error_terms-is n k l
    ∙ terms_same (n / (2 * k)) l n (omega (arith, div-le_self n (2 * k))) (omega (arith, div-le_self n (2 * k), less_than_power n))
    ∙ sym (error_terms-is n k n)

pub no_more_terms : (n k more : ℕ) → n ≤ more → error_terms n k more ≡ rank_error n k
no_more_terms n k more le = error_terms_all n k more (omega (arith, less_than_power n, pow_mono {i = n} {j = more} le))

-- each term is at most the number of compactions
pub terms-bound : (m l most : ℕ) → m ≤ most → terms m l ≤ l * most
unfolding terms
terms-bound m zero most le = omega arith
terms-bound m (suc l) most le = omega (arith, terms-bound m l most le, mul-div-le m (2 ^ l))

-- ---- the loop

pub no_terms : (n k : ℕ) → 0 ≡ error_terms n k 0
unfolding error_terms
no_terms n k = refl

-- a term as the code has it: shifted down, and up again
pub shifted : (n k l half : ℕ) → half ≡ k → n ≤ most_items → n / (2 * half) / 2 ^ l * 2 ^ l % 2 ^ 64 ≡ 2 ^ l * (n / (2 * k * 2 ^ l))
shifted n k l half is few =
    let q = n / (2 * k) / 2 ^ l in
    let small : q * 2 ^ l < 2 ^ 64 = omega (arith, div-mul-le_self (n / (2 * k)) (2 ^ l), div-le_self n (2 * k)) in
    ap (λ (h : ℕ). n / (2 * h) / 2 ^ l * 2 ^ l % 2 ^ 64) is ∙ mod-eq_of_lt small ∙ mul_comm q (2 ^ l) ∙ ap (λ (r : ℕ). 2 ^ l * r) (div-div-eq-div-mul n (2 * k) (2 ^ l))

pub one_term_more : (n k l half : ℕ) → half ≡ k → n ≤ most_items → error_terms n k l + n / (2 * half) / 2 ^ l * 2 ^ l % 2 ^ 64 ≡ error_terms n k (l + 1)
unfolding error_terms
one_term_more n k l half is few =
    let next : l + 1 ≡ suc l = omega arith in
    ap (λ (t : ℕ). error_terms n k l + t) (shifted n k l half is few) ∙ ap (λ (m : ℕ). error_terms n k m) (sym next)

pub terms_are_few : (n k l : ℕ) → n ≤ most_items → error_terms n k l ≤ l * most_items
terms_are_few n k l few = omega (arith, error_terms-is n k l, terms-bound (n / (2 * k)) l most_items (omega (arith, div-le_self n (2 * k))))
