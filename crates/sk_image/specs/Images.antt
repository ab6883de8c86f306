-- Images of sketches, and their texts.
use Rattle.std.specs.Prelude.{ℕ, ◌^◌, ◌<◌, ◌≤◌, List, [], ◌∷◌, ◌++◌, length, map, flat_map, codes, decimal}
use Rattle.std.specs.List.Sorted.{IsStrictlyIncreasing}
use Rattle.sk_model.specs.Limits.{least_k}
use Rattle.sk_lines.specs.Hashes.{hex}
use Rattle.sk_image.specs.Versions.{IsVersion, AreHashes, digits_of, most_k_of}

-- the numbers of a sketch, and the hashes that it keeps
pub record IsImage (version k seed : ℕ) (hashes : List ℕ) : Type 0 where
  pub version_is : IsVersion version
  pub least : least_k ≤ k
  pub most : k ≤ most_k_of version
  pub seed_fits : seed < 2 ^ 32
  pub rises : IsStrictlyIncreasing hashes
  pub hashes_fit : AreHashes version hashes
  pub within : length hashes ≤ k

-- the first line of an image
unfoldable pub first_line : ℕ → ℕ → ℕ → List ℕ
first_line version k seed = codes "theta" ++ decimal version ++ codes " k=" ++ decimal k ++ codes " seed=" ++ decimal seed

-- the line of a hash
abbrev pub hash_text : ℕ → ℕ → List ℕ
hash_text version hash = hex (digits_of version) hash

-- the last line, with the number of hashes
unfoldable pub last_line : ℕ → List ℕ
last_line count = codes "end " ++ decimal count

-- the lines of an image
unfoldable pub lines_of_image : ℕ → ℕ → ℕ → List ℕ → List (List ℕ)
lines_of_image version k seed hashes = first_line version k seed ∷ (map (hash_text version) hashes ++ last_line (length hashes) ∷ [])

-- the text of lines that LF ends
unfoldable pub joined : List (List ℕ) → List ℕ
joined lines = flat_map (λ line. line ++ codes "\n") lines

-- the text of an image
abbrev pub text_of : ℕ → ℕ → ℕ → List ℕ → List ℕ
text_of version k seed hashes = joined (lines_of_image version k seed hashes)
