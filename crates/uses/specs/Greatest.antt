-- The greatest member of a list, and what a sketch that keeps it owes of an item that is not above it.
use Rattle.std.proofs.Common.{◌≡◌, ℕ, ◌+◌, ◌<◌, ◌≤◌, max, nat_le, false, List, [], ◌∷◌, ◌++◌, fold, refl, sym, ap, ◌∙◌, arith}
use Rattle.std.proofs.lemmas.Bool.Decides.{nat_tests}
use Rattle.std.proofs.lemmas.List.Elements.{All-head, All-tail}
use Rattle.sk_model.specs.Entries.{Entry, items_of_entries}
use Rattle.sk_model.specs.Width.{item_end, IsItem, AreItems}

-- the greatest member, 0 where there is none
abbrev pub greatest_of : List ℕ → ℕ
greatest_of [] = 0
greatest_of (x ∷ xs) = max x (greatest_of xs)

-- the greatest item of entries
abbrev pub greatest_in : List Entry → ℕ
greatest_in entries = greatest_of (items_of_entries entries)

-- ---- laws

pub greatest_append : (xs ys : List ℕ) → greatest_of (xs ++ ys) ≡ max (greatest_of xs) (greatest_of ys)
greatest_append [] ys = omega arith
greatest_append (x ∷ xs) ys = let e = greatest_append xs ys in omega arith

pub greatest_folds : (m : ℕ) (xs : List ℕ) → fold (λ most x. max most x) m xs ≡ max m (greatest_of xs)
greatest_folds m [] = omega arith
greatest_folds m (x ∷ xs) = let e = greatest_folds (max m x) xs in omega arith

pub greatest_fits : (xs : List ℕ) → AreItems xs → greatest_of xs < item_end
greatest_fits [] fit = omega arith
greatest_fits (x ∷ xs) fit =
    let first = All-head IsItem x xs fit in
    let rest = greatest_fits xs (All-tail IsItem x xs fit) in
    omega arith

pub fold_fits : (m : ℕ) (xs : List ℕ) → m < item_end → AreItems xs → fold (λ most x. max most x) m xs < item_end
fold_fits m xs first fit = let e = greatest_folds m xs in let rest = greatest_fits xs fit in omega arith

-- an item that is not above a part of a list may be left out behind it
without : (a b c : List ℕ) (item : ℕ) → item ≤ greatest_of a → greatest_of ((a ++ b) ++ item ∷ c) ≡ greatest_of ((a ++ b) ++ c)
without a b c item idle =
    let with_it = greatest_append (a ++ b) (item ∷ c) in
    let with_none = greatest_append (a ++ b) c in
    let front = greatest_append a b in
    omega arith

entries_with : (list more rest : List Entry) (i item : ℕ) → items_of_entries ((list ++ more) ++ (i, item) ∷ rest) ≡ (items_of_entries list ++ items_of_entries more) ++ item ∷ items_of_entries rest
unfolding items_of_entries
entries_with [] [] rest i item = refl
entries_with [] (e ∷ more) rest i item = ap (λ (l : List ℕ). e.1 ∷ l) (entries_with [] more rest i item)
entries_with (e ∷ list) more rest i item = ap (λ (l : List ℕ). e.1 ∷ l) (entries_with list more rest i item)

entries_without : (list more rest : List Entry) → items_of_entries ((list ++ more) ++ rest) ≡ (items_of_entries list ++ items_of_entries more) ++ items_of_entries rest
unfolding items_of_entries
entries_without [] [] rest = refl
entries_without [] (e ∷ more) rest = ap (λ (l : List ℕ). e.1 ∷ l) (entries_without [] more rest)
entries_without (e ∷ list) more rest = ap (λ (l : List ℕ). e.1 ∷ l) (entries_without list more rest)

-- an item that the hint of a list does not keep is not above its greatest
pub not_above : (list : List Entry) (item : ℕ) → nat_le (greatest_in list + 1) item ≡ false → item ≤ greatest_in list
not_above list item not_kept = grind (arith, nat_tests)

pub same_greatest : (list more rest : List Entry) (i item : ℕ) → nat_le (greatest_in list + 1) item ≡ false → greatest_in ((list ++ more) ++ (i, item) ∷ rest) ≡ greatest_in ((list ++ more) ++ rest)
same_greatest list more rest i item not_kept =
    ap greatest_of (entries_with list more rest i item)
    ∙ without (items_of_entries list) (items_of_entries more) (items_of_entries rest) item (not_above list item not_kept)
    ∙ ap greatest_of (sym (entries_without list more rest))

pub replies : (numbers : List ℕ) (list more rest : List Entry) (i item : ℕ) → IsItem item → nat_le (greatest_in list + 1) item ≡ false
    → (greatest_in ((list ++ more) ++ (i, item) ∷ rest) + 1 ≡ greatest_in ((list ++ more) ++ rest) + 1)
    × (greatest_in ((list ++ more) ++ (i, item) ∷ rest) ≡ greatest_in ((list ++ more) ++ rest))
replies numbers list more rest i item small not_kept = let same = same_greatest list more rest i item not_kept in (ap (λ m. m + 1) same, same)
