-- The greatest of items of which some were kept.
use Rattle.std.proofs.Common.{◌≡◌, inl, inr, ℕ, ◌+◌, ◌<◌, ◌≤◌, max, nat_le, Bool, List, [], ◌∷◌, ◌++◌, All, refl, sym, ap, subst, ◌∙◌, arith}
use Rattle.std.proofs.lemmas.List.Elements.{All-head, All-tail}
use Rattle.sk_model.specs.Entries.{Entry, entries_by, items_of_entries, tagged}
use Rattle.sk_model.specs.Missing.{Begins}
use Rattle.sk_compose.specs.Kept.{IsFiltered, AreKept}
use Rattle.uses.specs.Greatest.{greatest_of, greatest_in, greatest_append, not_above}

-- by which items are kept, and its hint of a list
abbrev pub above : ℕ → ℕ → Bool
above hint item = nat_le hint item

abbrev pub hint_in : List Entry → ℕ
hint_in list = greatest_in list + 1

in_append : (xs ys : List Entry) → items_of_entries (xs ++ ys) ≡ items_of_entries xs ++ items_of_entries ys
unfolding items_of_entries
in_append [] ys = refl
in_append (x ∷ xs) ys = ap (λ (l : List ℕ). x.1 ∷ l) (in_append xs ys)

pub none_greatest : 0 ≡ greatest_in []
unfolding items_of_entries
none_greatest = refl

items_in_batch : (from : ℕ) (batch : List ℕ) → items_of_entries (tagged from batch) ≡ batch
unfolding items_of_entries
items_in_batch from [] = refl
items_in_batch from (x ∷ batch) = ap (λ (l : List ℕ). x ∷ l) (items_in_batch from batch)

-- a batch more
pub with_batch : (list : List Entry) (from : ℕ) (batch : List ℕ) → greatest_in (list ++ tagged from batch) ≡ max (greatest_in list) (greatest_of batch)
with_batch list from batch =
    ap greatest_of (in_append list (tagged from batch) ∙ ap (λ (l : List ℕ). items_of_entries list ++ l) (items_in_batch from batch))
    ∙ greatest_append (items_of_entries list) batch

-- a longer list has no smaller greatest
grows : (xs ys : List Entry) → Begins xs ys → greatest_in xs ≤ greatest_in ys
grows xs ys b =
    let e : greatest_in ys ≡ max (greatest_in xs) (greatest_in b.0) =
    ap greatest_in b.1 ∙ ap greatest_of (in_append xs b.0) ∙ greatest_append (items_of_entries xs) (items_of_entries b.0) in
    omega arith

filtered_below : (base : List Entry) (item : ℕ) → IsFiltered above hint_in base item → item ≤ greatest_in base
filtered_below base item f =
    let low = not_above f.0 item f.2 in let up = grows f.0 base f.1 in omega arith

pub kept_below : (base : List Entry) (items kept : List ℕ) → AreKept above hint_in base items kept → greatest_of kept ≤ greatest_of items
unfolding AreKept
kept_below base [] kept k = let e = ap greatest_of k in omega arith
kept_below base (x ∷ xs) kept (inl d) = let h = kept_below base xs kept d.1 in omega arith
kept_below base (x ∷ xs) kept (inr d) = let h = kept_below base xs d.0 d.2 in let e = ap greatest_of d.1 in omega arith

pub items_below : (base : List Entry) (items kept : List ℕ) → AreKept above hint_in base items kept → greatest_of items ≤ max (greatest_of kept) (greatest_in base)
unfolding AreKept
items_below base [] kept k = omega arith
items_below base (x ∷ xs) kept (inl d) = let h = items_below base xs kept d.1 in let f = filtered_below base x d.0 in omega arith
items_below base (x ∷ xs) kept (inr d) = let h = items_below base xs d.0 d.2 in let e = ap greatest_of d.1 in omega arith

-- where only updater 0 has items, they are all its own
pub all_of_one : (list : List Entry) → All (λ entry. entry.0 < 1) list → entries_by 0 list ≡ items_of_entries list
unfolding entries_by items_of_entries
all_of_one [] one = refl
all_of_one ((i, item) ∷ list) one =
    let first : i < 1 = All-head (λ (entry : Entry). entry.0 < 1) (i, item) list one in
    let zero_is : i ≡ 0 = omega arith in
    let rest = all_of_one list (All-tail (λ (entry : Entry). entry.0 < 1) (i, item) list one) in
    subst (λ (j : ℕ). entries_by 0 ((j, item) ∷ list) ≡ items_of_entries ((j, item) ∷ list)) (sym zero_is) (ap (λ (l : List ℕ). item ∷ l) rest)

-- the greatest of a list that has exactly what was kept of items, and begins with their base
pub greatest_of_all : (list : List Entry) (items kept : List ℕ) → All (λ entry. entry.0 < 1) list → entries_by 0 list ≡ kept → AreKept above hint_in list items kept → greatest_in list ≡ greatest_of items
greatest_of_all list items kept one has k =
    let e : greatest_in list ≡ greatest_of kept = ap greatest_of (sym (all_of_one list one) ∙ has) in
    let low = kept_below list items kept k in
    let high = items_below list items kept k in
    omega arith
