-- The names of tenants, each at its place.
use Rattle.std.specs.Prelude.{◌≡◌, ◌≢◌, ℕ, List, All, take, map, Contains, Option, Some, slice_get, position, String, string_bytes}
use Rattle.std.specs.List.{AllPairs}
use Rattle.std.specs.Str.{bytes_eq}

-- the most tenants
abbrev pub most_tenants : ℕ
most_tenants = 64

-- no two of them are equal
abbrev pub AreDifferent : List (List ℕ) → Type 0
AreDifferent names = AllPairs (λ a b. a ≢ b) names

-- no byte of a name is a space
abbrev pub HasNoSpace : List ℕ → Type 0
HasNoSpace name = All (λ byte. byte ≢ 32) name

-- the place of the name
abbrev pub place_of : List (List ℕ) → List ℕ → Option ℕ
place_of names name = position (bytes_eq name) names

-- name i is the first that equals an earlier one
pub record IsFirstTwice (names : List (List ℕ)) (i : ℕ) : Type 0 where
  pub name : List ℕ
  pub is_at : slice_get names i ≡ Some name
  pub earlier : Contains (take i names) name
  pub others : AreDifferent (take i names)

-- the bytes of names
abbrev pub bytes_of : {Z : Type 0} → List (String Z) → List (List ℕ)
bytes_of {Z} names = map (λ (name : String Z). string_bytes name) names

-- what finds names of one length among these
pub record FinderState : Type 0 where
  pub names : List (List ℕ)
  pub len : ℕ
