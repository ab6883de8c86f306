-- Counts that are stored in two parts.
use Rattle.std.proofs.Common.{◌≡◌, ℕ, zero, suc, ◌+◌, ◌*◌, List, [], ◌∷◌, length, replicate, get_or, refl, sym, ap, ◌∙◌, arith}
use Rattle.std.specs.Prelude.{slice_set}
use Rattle.std.proofs.lemmas.List.{set-get_or}
use Rattle.sk_cms.specs.Counts.{joined}

pub length-joined : (low high : List ℕ) → length high ≡ length low → length (joined low high) ≡ length low
unfolding joined
length-joined [] high same = refl
length-joined (l ∷ low) [] same = absurd (omega arith)
length-joined (l ∷ low) (h ∷ high) same = let rest = length-joined low high (omega arith) in omega arith

pub joined_at : (low high : List ℕ) (i : ℕ) → length high ≡ length low → get_or (joined low high) i 0 ≡ get_or low i 0 + 256 * get_or high i 0
unfolding joined
joined_at [] [] i same = refl
joined_at [] (h ∷ high) i same = absurd (omega arith)
joined_at (l ∷ low) [] i same = absurd (omega arith)
joined_at (l ∷ low) (h ∷ high) zero same = refl
joined_at (l ∷ low) (h ∷ high) (suc i) same = joined_at low high i (omega arith)

pub joined_set : (low high : List ℕ) (i a b : ℕ) → joined (slice_set low i a) (slice_set high i b) ≡ slice_set (joined low high) i (a + 256 * b)
unfolding joined
joined_set [] high i a b = refl
joined_set (l ∷ low) [] zero a b = refl
joined_set (l ∷ low) [] (suc i) a b = refl
joined_set (l ∷ low) (h ∷ high) zero a b = refl
joined_set (l ∷ low) (h ∷ high) (suc i) a b = ap (λ (cells : List ℕ). (l + 256 * h) ∷ cells) (joined_set low high i a b)

-- the lower part alone is written
pub joined_set_low : (low high : List ℕ) (i a : ℕ) → joined (slice_set low i a) high ≡ slice_set (joined low high) i (a + 256 * get_or high i 0)
joined_set_low low high i a =
    ap (λ (l : List ℕ). joined (slice_set low i a) l) (sym (set-get_or high i 0)) ∙ joined_set low high i a (get_or high i 0)

pub joined_none : (n : ℕ) → joined (replicate n 0) (replicate n 0) ≡ replicate n 0
unfolding joined
joined_none zero = refl
joined_none (suc n) = ap (λ (cells : List ℕ). 0 ∷ cells) (joined_none n)
