-- Names that a word joins by commas.
use Rattle.std.specs.Prelude.{◌≡◌, ◌≢◌, ℕ, ◌<◌, ◌≤◌, ◌==◌, nat_le, Bool, true, false, ◌&&◌, ◌||◌, not, List, [], ◌∷◌, length, All, AllPairs, if◌then◌else◌, bytes_eq, Option, Some, None}
use Rattle.std.specs.List.{list_any}
use Rattle.sk_cli.specs.Values.{Word, parts_of}

-- how many names a word joins at most
abbrev pub most_names : ℕ
most_names = 64

-- whether a word has a byte, and no space
abbrev pub is_name : Word → Bool
is_name word = not (length word == 0) && not (list_any (λ byte. byte == 32) word)

-- whether a word is one of these
abbrev pub is_among : Word → List Word → Bool
is_among word [] = false
is_among word (other ∷ others) = bytes_eq other word || is_among word others

-- whether these are names, no two of them equal
abbrev pub are_names : List Word → Bool
are_names [] = true
are_names (word ∷ words) = (is_name word && not (is_among word words)) && are_names words

-- the names that a word joins: one to 64
abbrev pub names_of : Word → Option (List Word)
names_of word = if nat_le (length (parts_of word)) most_names && are_names (parts_of word) then Some (parts_of word) else None

-- these are names of tenants: one to 64, no two of them equal, none empty, and none with a space
pub record AreTenantNames (names : List Word) : Type 0 where
  pub some : 1 ≤ length names
  pub few : length names ≤ most_names
  pub each : All (λ name. 0 < length name) names
  pub spaceless : All (λ name. list_any (λ byte. byte == 32) name ≡ false) names
  pub differ : AllPairs (λ a b. a ≢ b) names
