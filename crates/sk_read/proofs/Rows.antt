-- Lemmas on bits in a row: a mask that is cut with itself, shifted, speaks of more and more of them.
use Rattle.std.proofs.Common.{◌≡◌, ℕ, ◌+◌, ◌-◌, ◌^◌, ◌/◌, ◌%◌, ◌<◌, ◌≤◌, ⊎_elim, true, false, not, nat_eq, bit_and, w64, sym, ap, ◌∙◌, arith, eq-eqb, true≢false}
use Rattle.std.specs.Int.{bit_at, bit_not, trailing_zeros}
use Rattle.std.proofs.lemmas.Bool.{cases_lt, ne_eqb}
use Rattle.std.proofs.lemmas.Nat.{shr-shr, and_le_l}
use Rattle.std.proofs.lemmas.Nat.Bits.{bit_at_and, bit_at-lt, bit_at-zero, bit_at_above, bit_at_not, bit_at-trailing_zeros}

-- each bit of the rows says whether this many bits of the mask, from the same place on, are set
pub record AreRows (mask rows count : ℕ) : Type 0 where
  pub fits : rows ≤ mask
  pub set : (i : ℕ) → bit_at rows i ≡ 1 → (k : ℕ) → k < count → bit_at mask (i + k) ≡ 1
  pub all : (i : ℕ) → ((k : ℕ) → k < count → bit_at mask (i + k) ≡ 1) → bit_at rows i ≡ 1

pub rows_of_one : (mask : ℕ) → AreRows mask mask 1
rows_of_one mask = record {
  fits = omega arith;
  set = λ i is k below. let same : i ≡ i + k = omega arith in ap (bit_at mask) (sym same) ∙ is;
  all = λ i each. let same : i + 0 ≡ i = omega arith in ap (bit_at mask) (sym same) ∙ each 0 (omega arith);
}

-- both bits of a cut are set
module _ (rows far i : ℕ) where
  later : bit_at (rows / 2 ^ far) i ≡ bit_at rows (far + i)
  later = ap (λ (n : ℕ). n % 2) (shr-shr rows far i)

  both : bit_at (bit_and rows (rows / 2 ^ far)) i ≡ 1 → (bit_at rows i ≡ 1) × (bit_at rows (far + i) ≡ 1)
  both is = (
    omega (arith, is, bit_at_and rows (rows / 2 ^ far) i, bit_at-lt rows i),
    omega (arith, is, bit_at_and rows (rows / 2 ^ far) i, later, bit_at-lt rows (far + i)),
  )

  both_set : bit_at rows i ≡ 1 → bit_at rows (far + i) ≡ 1 → bit_at (bit_and rows (rows / 2 ^ far)) i ≡ 1
  both_set here there = omega (arith, here, there, bit_at_and rows (rows / 2 ^ far) i, later)

pub more_rows : (mask rows count far : ℕ) → far ≤ count → AreRows mask rows count → AreRows mask (bit_and rows (rows / 2 ^ far)) (count + far)
more_rows mask rows count far meet r = record {
  fits = omega (arith, and_le_l rows (rows / 2 ^ far), r.fits);
  set = λ i is k below.
      let two = both rows far i is in
      ⊎_elim
      (λ (early : k < count). r.set i two.0 k early)
      (λ (late : count ≤ k).
      let place : i + k ≡ far + i + (k - far) = omega arith in
      ap (bit_at mask) place ∙ r.set (far + i) two.1 (k - far) (omega arith))
      (cases_lt k count);
  all = λ i each. both_set rows far i
      (r.all i (λ k below. each k (omega arith)))
      (r.all (far + i) (λ k below. let place : far + i + k ≡ i + (far + k) = omega arith in ap (bit_at mask) place ∙ each (far + k) (omega arith)));
}

-- 15 bits in a row
module _ (lfs starts : ℕ) (fits : lfs < 2 ^ 64) (r : AreRows (bit_not w64 lfs) starts 15) where
  pub a_long_row : not (nat_eq starts 0) ≡ true → (i : ℕ) × (i + 15 ≤ 64) × ((k : ℕ) → k < 15 → bit_at lfs (i + k) ≡ 0)
  a_long_row some =
      let not_none : 0 < starts = ⊎_elim
      (λ (more : 0 < starts). more)
      (λ (none : starts ≤ 0). absurd (true≢false (sym some ∙ ap not (eq-eqb starts 0 (omega arith)))))
      (cases_lt 0 starts) in
      let i : ℕ = trailing_zeros w64 starts in
      let is = bit_at-trailing_zeros w64 starts not_none (omega (arith, r.fits)) in
      let inside : i + 15 ≤ 64 = ⊎_elim
      (λ (below : i + 14 < 64). omega arith)
      (λ (past : 64 ≤ i + 14). absurd (omega (arith, r.set i is.1 14 (omega arith), bit_at_above (bit_not w64 lfs) 64 (i + 14) (omega arith) past)))
      (cases_lt (i + 14) 64) in
      (i, inside, λ k below. omega (arith, r.set i is.1 k below, bit_at_not w64 lfs (i + k) fits (omega arith), bit_at-lt lfs (i + k)))

  pub no_long_row : not (nat_eq starts 0) ≡ false → (i : ℕ) → i + 15 ≤ 64 → ¬ ((k : ℕ) → k < 15 → bit_at lfs (i + k) ≡ 0)
  no_long_row none i inside each =
      let is_none : starts ≡ 0 = ⊎_elim
      (λ (more : 0 < starts). absurd (true≢false (sym (ap not (ne_eqb starts 0 (λ z. omega arith))) ∙ none)))
      (λ (zero : starts ≤ 0). omega arith)
      (cases_lt 0 starts) in
      let set = r.all i (λ k below. omega (arith, each k below, bit_at_not w64 lfs (i + k) fits (omega arith))) in
      omega (arith, set, ap (λ (n : ℕ). bit_at n i) is_none, bit_at-zero i)
