-- Which LFs of a buffer are known.
use Rattle.std.specs.Prelude.{◌≡◌, ◌≢◌, ℕ, ◌+◌, ◌-◌, ◌<◌, ◌≤◌, List, slice_index}
use Rattle.std.specs.Int.{bit_at}

-- from `at` on, all LFs before `scanned` are known: bit k of the marks stands for place scanned + k - 64
pub record KnowsLfs (bytes : List ℕ) (at scanned marks : ℕ) : Type 0 where
  pub ordered : at ≤ scanned
  pub marked : (k : ℕ) → bit_at marks k ≡ 1 → (k < 64) × (at + 64 ≤ scanned + k) × (slice_index bytes (scanned + k - 64) ≡ 10)
  pub seen : (i : ℕ) → at ≤ i → i < scanned → slice_index bytes i ≡ 10 → (scanned ≤ i + 64) × (bit_at marks (i + 64 - scanned) ≡ 1)

-- the first LF from a place on
pub record IsFirstLf (bytes : List ℕ) (at end : ℕ) : Type 0 where
  pub from : at ≤ end
  pub lf : slice_index bytes end ≡ 10
  pub before : (i : ℕ) → at ≤ i → i < end → slice_index bytes i ≢ 10

-- the first known LF, and what is known after it
pub record TakesLf (bytes : List ℕ) (at scanned end marks : ℕ) : Type 0 where
  pub first : IsFirstLf bytes at end
  pub known : KnowsLfs bytes (end + 1) scanned marks
