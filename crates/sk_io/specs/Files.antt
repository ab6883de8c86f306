-- Files by name: each is its name with its bytes.
use Rattle.std.specs.Prelude.{◌≡◌, ℕ, List, ◌++◌, Option, None, Some, find, bytes_eq, IsSomeAnd, IsNone, ⊤}
use Rattle.std.specs.Option.{option_map, option_and_then}

-- the bytes of the first file of this name
abbrev pub file_named : List (List ℕ × List ℕ) → List ℕ → Option (List ℕ)
file_named files name =
    option_map (λ (f : List ℕ × List ℕ). f.1) (find (λ (f : List ℕ × List ℕ). bytes_eq f.0 name) files)

-- those bytes, if the files are known
abbrev pub told_file : Option (List (List ℕ × List ℕ)) → List ℕ → Option (List ℕ)
told_file told name = option_and_then (λ files. file_named files name) told

-- the files are known, and none has this name
abbrev pub IsMissing : Option (List (List ℕ × List ℕ)) → List ℕ → Type 0
IsMissing told name = IsSomeAnd told (λ files. IsNone (file_named files name))

-- the names that were opened are those of before and then these; a shelf that no longer keeps them says nothing,
-- and stays so
abbrev pub Opens : Option (List (List ℕ)) → Option (List (List ℕ)) → List (List ℕ) → Type 0
Opens None None names = ⊤
Opens None (Some new) names = ⊥
Opens (Some old) None names = ⊤
Opens (Some old) (Some new) names = new ≡ old ++ names
