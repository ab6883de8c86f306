-- Lines that are known by their length.
use Rattle.std.specs.Prelude.{◌≡◌, ℕ, ◌+◌, ◌<◌, ◌≤◌, List, length, slice_index}

-- LF comes after this many bytes, none of which is LF or CR
pub record IsPlain (bytes : List ℕ) (at len : ℕ) : Type 0 where
  pub lf : slice_index bytes (at + len) ≡ 10
  pub plain : (k : ℕ) → k < len → 14 ≤ slice_index bytes (at + k)

-- what the first 16 bytes of such a line are not below
pub record AreFloors (len : ℕ) (floors : List ℕ) : Type 0 where
  pub wide : length floors ≡ 16
  pub line : (k : ℕ) → k < len → k < 16 → slice_index floors k ≡ 14

-- four such lines follow one another
pub record AreFourPlain (bytes : List ℕ) (at len : ℕ) : Type 0 where
  pub first : IsPlain bytes at len
  pub second : IsPlain bytes (at + (len + 1)) len
  pub third : IsPlain bytes (at + (len + 1) + (len + 1)) len
  pub fourth : IsPlain bytes (at + (len + 1) + (len + 1) + (len + 1)) len

-- from one place in each of four such lines up to another no byte is LF or CR
pub record ArePlainBetween (bytes : List ℕ) (at len from to : ℕ) : Type 0 where
  pub first : (k : ℕ) → from ≤ k → k < to → 14 ≤ slice_index bytes (at + k)
  pub second : (k : ℕ) → from ≤ k → k < to → 14 ≤ slice_index bytes (at + (len + 1) + k)
  pub third : (k : ℕ) → from ≤ k → k < to → 14 ≤ slice_index bytes (at + (len + 1) + (len + 1) + k)
  pub fourth : (k : ℕ) → from ≤ k → k < to → 14 ≤ slice_index bytes (at + (len + 1) + (len + 1) + (len + 1) + k)

-- no lane is above one of these, or above the byte of a block
pub record IsLowered (least lanes bytes : List ℕ) (at : ℕ) : Type 0 where
  pub wide : length least ≡ 16
  pub lane : (k : ℕ) → k < 16 → slice_index least k ≤ slice_index lanes k
  pub byte : (k : ℕ) → k < 16 → slice_index least k ≤ slice_index bytes (at + k)
