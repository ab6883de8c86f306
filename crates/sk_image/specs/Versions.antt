-- What the version of an image decides. No other definition has these numbers.
use Rattle.std.specs.Prelude.{ℕ, ◌^◌, ◌<◌, ◌≤◌, ◌==◌, if◌then◌else◌, List, All}
use Rattle.sk_model.specs.Limits.{most_k, IsFrom}
use Rattle.sk_model.specs.Width.{item_end, item_digits}

-- the version of the images that are made
abbrev pub newest_version : ℕ
newest_version = 2

-- an image may have this version
abbrev pub IsVersion : ℕ → Type 0
IsVersion version = IsFrom 1 newest_version version

-- hashes are below this; as theta it stands for 1
unfoldable pub end_of : ℕ → ℕ
end_of version = if version == 1 then 2 ^ 48 else item_end

-- the least hash
unfoldable pub least_hash_of : ℕ → ℕ
least_hash_of version = if version == 1 then 0 else 1

-- how many digits base 16 the line of a hash has
unfoldable pub digits_of : ℕ → ℕ
digits_of version = if version == 1 then 12 else item_digits

-- the greatest k
unfoldable pub most_k_of : ℕ → ℕ
most_k_of version = if version == 1 then 32768 else most_k

-- a number is a hash of this version
abbrev pub IsHash : ℕ → ℕ → Type 0
IsHash version hash = (least_hash_of version ≤ hash) × (hash < end_of version)

-- each member is a hash of this version
abbrev pub AreHashes : ℕ → List ℕ → Type 0
AreHashes version hashes = All (λ hash. IsHash version hash) hashes
