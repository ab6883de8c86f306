-- Files in memory: the one of a name stands at the place where the name is found first.
use Rattle.std.proofs.Common.{◌≡◌, ℕ, ◌+◌, ◌<◌, ◌≤◌, Bool, true, false, not, cond, nat_lt, min, List, [], ◌∷◌, length, map, drop, get_or, Option, Some, None, Vec, String, refl, sym, ap, ◌∙◌, inl, inr, arith}
use Rattle.std.specs.Prelude.{string_bytes, bytes_eq}
use Rattle.std.specs.List.{position, position_or_len, slice_get}
use Rattle.std.specs.Option.{option_map, option_map_or}
use Rattle.std.proofs.lemmas.List.{drop_all, length-map}
use Rattle.std.proofs.lemmas.List.Folds.{find_at}
use Rattle.std.proofs.lemmas.Option.{slice_get_cases, slice_get-map, slice_get_read, slice_get_past}
use Rattle.sk_io.specs.Files.{file_named}
use Rattle.sk_io.specs.Memory.{stored, bytes_of}

abbrev bytes_in : List ℕ × List ℕ → List ℕ
bytes_in f = f.1

abbrev entry_of : {Z Y : Type 0} → String Z × Vec ℕ Y → List ℕ × List ℕ
entry_of f = (string_bytes f.0, f.1.items)

-- the bytes of the file at a place, if there is one
at_place : (files : List (List ℕ × List ℕ)) (i : ℕ) → option_map bytes_in (slice_get files i) ≡ option_map (bytes_of files) (cond (nat_lt i (length files)) (Some i) None)
at_place files i =
    elim ((slice_get_cases files i).1) as (λ _. option_map bytes_in (slice_get files i) ≡ option_map (bytes_of files) (cond (nat_lt i (length files)) (Some i) None)) [
      | inl w ↦ (let within : nat_lt i (length files) ≡ true = grind arith in rw within (rw w.2 refl))
      | inr w ↦ (let past : nat_lt i (length files) ≡ false = grind arith in rw past (rw w.1 refl))
    ]

first-map : {X Y : Type 0} (p : Y → Bool) (g : X → Y) (xs : List X) → position_or_len p (map g xs) ≡ position_or_len (λ (x : X). p (g x)) xs
first-map p g [] = refl
first-map p g (x ∷ xs) = ap (λ (n : ℕ). cond (not (p (g x))) (1 + n) 0) (first-map p g xs)

placed : {Z Y : Type 0} (files : List (String Z × Vec ℕ Y)) (name : List ℕ) → file_named (stored files) name ≡ option_map (bytes_of (stored files)) (position (λ (f : String Z × Vec ℕ Y). bytes_eq (string_bytes f.0) name) files)
placed {Z} {Y} files name =
    let has : List ℕ × List ℕ → Bool = λ f. bytes_eq f.0 name in
    let first = first-map has (entry_of {Z = Z} {Y = Y}) files in
    ap (option_map bytes_in) (find_at has (stored files)) ∙ at_place (stored files) _ ∙ rw (first, length-map) refl

-- the file of a name is the one at the place where the name was found, if it was
pub file_found : {Z Y : Type 0} (files searched : List (String Z × Vec ℕ Y)) (name : List ℕ) (place found : Option ℕ) → searched ≡ files → place ≡ position (λ (f : String Z × Vec ℕ Y). bytes_eq (string_bytes f.0) name) searched → place ≡ found → file_named (stored files) name ≡ option_map (bytes_of (stored files)) found
file_found files searched name place found same is at =
    placed files name ∙ ap (option_map (bytes_of (stored files))) (sym (rw same at is) ∙ at)

-- the bytes of a file that stands at a place
pub bytes_at : {Z Y : Type 0} (files : List (String Z × Vec ℕ Y)) (i : ℕ) (f : String Z × Vec ℕ Y) → i < length files → f ≡ get_or files i f → bytes_of (stored files) i ≡ f.1.items
bytes_at {Z} {Y} files i f within is =
    ap (λ (o : Option (List ℕ × List ℕ)). option_map_or bytes_in o [])
    (slice_get-map (entry_of {Z = Z} {Y = Y}) files i ∙ ap (option_map (entry_of {Z = Z} {Y = Y})) (slice_get_read files (length files) i f refl within is))

-- no bytes past the last file
pub bytes_past : {Z Y : Type 0} (files : List (String Z × Vec ℕ Y)) (i : ℕ) → length files ≤ i → bytes_of (stored files) i ≡ []
bytes_past {Z} {Y} files i past =
    ap (λ (o : Option (List ℕ × List ℕ)). option_map_or bytes_in o [])
    (slice_get-map (entry_of {Z = Z} {Y = Y}) files i ∙ ap (option_map (entry_of {Z = Z} {Y = Y})) (slice_get_past files i past))

pub drop_within : (at : ℕ) (xs : List ℕ) → drop (min at (length xs)) xs ≡ drop at xs
drop_within at xs = grind (arith, drop_all)
