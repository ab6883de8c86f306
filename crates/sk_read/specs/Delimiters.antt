-- The LFs, CRs and commas of a text, and which of them are known.
use Rattle.std.specs.Prelude.{◌≡◌, ◌⊎◌, ℕ, ◌+◌, ◌-◌, ◌<◌, ◌≤◌, List, length, slice_index}
use Rattle.std.specs.Int.{bit_at}
use Rattle.sk_read.specs.Scan.{IsEnd}
use Rattle.sk_read.specs.declared.records.delimiters.Ahead.{Ahead}

-- LF, CR or a comma
abbrev pub IsDelimiter : ℕ → Type 0
IsDelimiter byte = IsEnd byte ⊎ (byte ≡ 44)

abbrev pub IsQuote : ℕ → Type 0
IsQuote byte = byte ≡ 34

-- the first byte of a kind from a place on, or the end of the text
pub record IsFirst (P : ℕ → Type 0) (text : List ℕ) (at place : ℕ) : Type 0 where
  pub from : at ≤ place
  pub within : place ≤ length text
  pub none : (i : ℕ) → at ≤ i → i < place → ¬ P (slice_index text i)
  pub here : place < length text → P (slice_index text place)

-- the first of them from a place on, or the end of the text
pub record IsNextDelimiter (text : List ℕ) (at place : ℕ) : Type 0 where
  pub from : at ≤ place
  pub within : place ≤ length text
  pub none : (i : ℕ) → at ≤ i → i < place → ¬ IsDelimiter (slice_index text i)
  pub here : place < length text → IsDelimiter (slice_index text place)

-- from a place on, all delimiters before the end of what was scanned are marked
pub record Knows (text : List ℕ) (at : ℕ) (ahead : Ahead) : Type 0 where
  pub ordered : at ≤ ahead.scanned
  pub within : ahead.scanned ≤ length text
  pub marked : (k : ℕ) → bit_at ahead.marks k ≡ 1 → (k < 64) × (at + 64 ≤ ahead.scanned + k) × IsDelimiter (slice_index text (ahead.scanned + k - 64))
  pub seen : (i : ℕ) → at ≤ i → i < ahead.scanned → IsDelimiter (slice_index text i) → (ahead.scanned ≤ i + 64) × (bit_at ahead.marks (i + 64 - ahead.scanned) ≡ 1)
