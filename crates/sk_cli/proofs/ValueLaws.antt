-- Lists of numbers, part by part.
use Rattle.std.proofs.Common.{◌≡◌, ℕ, suc, ◌+◌, ◌<◌, ◌≤◌, Bool, option_and_then, if◌then◌else◌, nat_le, true, false, List, [], ◌∷◌, ◌++◌, length, take, drop, get_or, All, Option, Some, None, option_map, refl, sym, ap, ◌∙◌, arith, eqb, append-nil, append_assoc, length-take, take-append-drop}
use Rattle.std.proofs.Math.Seq.{drop-cons}
use Rattle.std.proofs.lemmas.Bool.{ne_eqb, le-leb, lt-leb}
use Rattle.std.proofs.lemmas.List.{get_or-take, get_or_default}
use Rattle.std.proofs.lemmas.List.Splits.{slice_split_none, slice_split_at, length-slice_split}
use Rattle.sk_cli.specs.Values.{Word, number_from, numbers_from, number_list, parts_of}

abbrev is_comma : ℕ → Bool
is_comma byte = eqb byte 44

no_comma : (word : Word) (d : ℕ) (k : ℕ) → k < length word → (get_or word k 0 ≡ 44 → ⊥) → is_comma (get_or word k d) ≡ false
no_comma word d k below absent = ne_eqb (get_or word k d) 44 (λ is. absent (get_or_default word k 0 d below ∙ is))

-- a word without a comma is one part
pub parts_none : (word : Word) → ((k : ℕ) → k < length word → get_or word k 0 ≡ 44 → ⊥) → parts_of word ≡ word ∷ []
parts_none word absent = slice_split_none is_comma word (λ k d below. no_comma word d k below (absent k below))

-- the first part ends at the first comma
pub parts_cut : (word part rest : Word) → word ≡ part ++ 44 ∷ rest → ((k : ℕ) → k < length part → get_or part k 0 ≡ 44 → ⊥) → parts_of word ≡ part ∷ parts_of rest
parts_cut word part rest is absent = ap parts_of is ∙ slice_split_at is_comma part 44 rest (λ k d below. no_comma part d k below (absent k below)) refl

-- ---- the numbers of some parts, and those of the others

abbrev behind : List ℕ → Option (List ℕ) → Option (List ℕ)
behind numbers others = option_map (λ (ns : List ℕ). numbers ++ ns) others

pub none_behind : (others : Option (List ℕ)) → others ≡ behind [] others
none_behind None = refl
none_behind (Some ns) = refl

behind_more : (numbers : List ℕ) (n : ℕ) (others : Option (List ℕ)) → behind numbers (option_map (λ (ns : List ℕ). n ∷ ns) others) ≡ behind (numbers ++ n ∷ []) others
behind_more numbers n None = refl
behind_more numbers n (Some ns) = ap (λ (l : List ℕ). Some l) (sym (append_assoc numbers (n ∷ []) ns))

-- one number more was read
pub read_more : (low high : ℕ) (all others : List Word) (word : Word) (numbers : List ℕ) (n : ℕ) → numbers_from low high all ≡ behind numbers (numbers_from low high (word ∷ others)) → Some n ≡ number_from low high word →
    numbers_from low high all ≡ behind (numbers ++ n ∷ []) (numbers_from low high others)
read_more low high all others word numbers n is read =
    is ∙ ap (λ (o : Option ℕ). behind numbers (option_and_then (λ (m : ℕ). option_map (λ (ns : List ℕ). m ∷ ns) (numbers_from low high others)) o)) (sym read) ∙ behind_more numbers n (numbers_from low high others)

-- a part spells no number
pub read_none : (low high : ℕ) (all others : List Word) (word : Word) (numbers : List ℕ) → numbers_from low high all ≡ behind numbers (numbers_from low high (word ∷ others)) → None ≡ number_from low high word →
    numbers_from low high all ≡ None
read_none low high all others word numbers is none =
    is ∙ ap (λ (o : Option ℕ). behind numbers (option_and_then (λ (m : ℕ). option_map (λ (ns : List ℕ). m ∷ ns) (numbers_from low high others)) o)) (sym none)

-- all parts were read
pub read_all : (low high : ℕ) (all : List Word) (numbers : List ℕ) → numbers_from low high all ≡ behind numbers (numbers_from low high []) → numbers_from low high all ≡ Some numbers
read_all low high all numbers is = is ∙ ap (λ (l : List ℕ). Some l) (append-nil numbers)

-- a list of few numbers
pub listed : (most low high : ℕ) (word : Word) (numbers : List ℕ) → length (parts_of word) ≤ most → numbers_from low high (parts_of word) ≡ Some numbers → Some numbers ≡ number_list most low high word
listed most low high word numbers few is = sym (ap (λ (b : Bool). if b then numbers_from low high (parts_of word) else None) (le-leb (length (parts_of word)) most few) ∙ is)

-- a list of too many
pub too_many : (most low high : ℕ) (word : Word) → most < length (parts_of word) → None ≡ number_list most low high word
too_many most low high word many = sym (ap (λ (b : Bool). if b then numbers_from low high (parts_of word) else None) (lt-leb (length (parts_of word)) most many))

-- a list with a part that is no number
pub unlisted : (most low high : ℕ) (word : Word) → numbers_from low high (parts_of word) ≡ None → None ≡ number_list most low high word
unlisted most low high word none = either (nat_le (length (parts_of word)) most)
  where
    no_numbers : Option (List ℕ)
    no_numbers = None

    either : (b : Bool) → no_numbers ≡ (if b then numbers_from low high (parts_of word) else None)
    either true = sym none
    either false = refl

-- a word has a part at least
pub some_part : (word : Word) → 1 ≤ length (parts_of word)
some_part word = omega (arith, length-slice_split is_comma word)
