-- Lemmas on the place of a hash among kept ones that rise.
use Rattle.std.proofs.Common.{◌≡◌, ℕ, zero, suc, ◌-◌, ◌<◌, ◌≤◌, List, [], ◌∷◌, length, take, drop, get_or, insert, All, MatchResult, Result, Ok, Err, nat_cmp, ⊎_elim, refl, ap, ◌∙◌, arith, length-take, get_or-take, take_at, take_all, length-take-le}
use Rattle.std.specs.List.Sorted.{IsStrictlyIncreasing, IsBinarySearchResult}
use Rattle.std.proofs.lemmas.List.Elements.{All-from_get_or}
use Rattle.std.proofs.lemmas.List.Kept.{AllPairs-from_increasing}
use Rattle.std.proofs.lemmas.List.Sorted.{searched}
use Rattle.std.proofs.lemmas.Bool.{cases_eq}
use Rattle.sk_model.specs.Sketch.{placed}
use Rattle.sk_model.proofs.Rising.{placed-insert, placed-there}
use Rattle.sk_theta.specs.Place.{IsPlace}

all_before : (hash : ℕ) (kept : List ℕ) (at : ℕ) → at ≤ length kept → ((k : ℕ) → k < at → get_or kept k 0 < hash) → All (λ y. y < hash) (take at kept)
all_before hash kept at within below =
    All-from_get_or (λ y. y < hash) (take at kept) 0
    (λ k inside. let near : k < at = omega (arith, length-take at kept) in rw (get_or-take at kept k 0 near) (below k near))

-- what a search over kept hashes finds
pub search_tells : (hash : ℕ) (kept : List ℕ) (r : Result ℕ ℕ) → IsStrictlyIncreasing kept → IsBinarySearchResult (λ y. nat_cmp y hash) kept r → MatchResult r (λ at. placed hash kept ≡ kept) (λ at. IsPlace hash kept at)
search_tells hash kept r up found = by_result r (searched kept hash r found (λ i j le inside. rises i j le inside))
  where
    rises : (i j : ℕ) → i ≤ j → j < length kept → get_or kept i 0 ≤ get_or kept j 0
    rises i j le inside = ⊎_elim (λ same. omega (arith, ap (λ k. get_or kept k 0) same)) (λ apart. omega (arith, AllPairs-from_increasing kept up i j 0 (omega arith) inside)) (cases_eq i j)

    by_result : (r : Result ℕ ℕ) → MatchResult r (λ i. (i < length kept) × (get_or kept i 0 ≡ hash)) (λ i. (i ≤ length kept) × ((k : ℕ) → k < i → get_or kept k 0 < hash) × ((k : ℕ) → i ≤ k → k < length kept → hash < get_or kept k 0)) → MatchResult r (λ at. placed hash kept ≡ kept) (λ at. IsPlace hash kept at)
    by_result (Ok at) h = placed-there hash kept at h.0 (all_before hash kept at (omega (arith, h.0)) (λ k less. omega (arith, h.1, AllPairs-from_increasing kept up k at 0 less h.0))) h.1
    by_result (Err at) h = record { within = h.0; below = all_before hash kept at h.0 h.1; above = λ inside. h.2 at (omega arith) inside }

pub placed_at : (hash : ℕ) (kept : List ℕ) (at : ℕ) → IsPlace hash kept at → placed hash kept ≡ insert kept at hash
placed_at hash kept at place = placed-insert hash kept at (place.within) (place.below) (place.above)

-- a hash with k others before it is not among the k smallest
pub past_all : (hash : ℕ) (kept : List ℕ) (at k : ℕ) → IsPlace hash kept at → length kept ≤ k → k ≤ at → take k (placed hash kept) ≡ kept
past_all hash kept at k place within past =
    let inside : at ≤ length kept = place.within in
    let same : at ≡ k = omega arith in
    ap (λ (l : List ℕ). take k l) (placed_at hash kept at place)
    ∙ take_at (take at kept) (hash ∷ drop at kept) k (length-take-le at kept inside ∙ same)
    ∙ take_all at kept (omega arith)

take-insert : (hash : ℕ) (kept : List ℕ) (at k : ℕ) → at ≤ length kept → at < k → length kept ≤ k → take k (insert kept at hash) ≡ insert (take (k - 1) kept) at hash
take-insert hash kept at zero inside less within = absurd (omega arith)
take-insert hash kept zero (suc k) inside less within = let same : suc k - 1 ≡ k = omega arith in rw same refl
take-insert hash [] (suc at) (suc k) inside less within = absurd (omega arith)
take-insert hash (x ∷ kept) (suc at) (suc zero) inside less within = absurd (omega arith)
take-insert hash (x ∷ kept) (suc at) (suc (suc k)) inside less within =
    let same : suc (suc k) - 1 ≡ suc k = omega arith in
    let less_one : suc k - 1 ≡ k = omega arith in
    rw same (ap (λ (l : List ℕ). x ∷ l) (take-insert hash kept at (suc k) (omega arith) (omega arith) (omega arith) ∙ ap (λ (n : ℕ). insert (take n kept) at hash) less_one))

-- among the k smallest it takes the place of the greatest where there were k
pub put_in : (hash : ℕ) (kept : List ℕ) (at k : ℕ) → IsPlace hash kept at → length kept ≤ k → at < k → take k (placed hash kept) ≡ insert (take (k - 1) kept) at hash
put_in hash kept at k place within less =
    ap (λ (l : List ℕ). take k l) (placed_at hash kept at place) ∙ take-insert hash kept at k (place.within) less within
