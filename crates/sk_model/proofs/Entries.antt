-- Lists of updates that several updaters made.
use Rattle.std.proofs.Common.{◌≡◌, ◌≢◌, ℕ, List, [], ◌∷◌, ◌++◌, map, cond, eqb, Bool, true, false, filter, refl, sym, ap, ◌∙◌, eq-eqb, ne_eqb}
use Rattle.sk_model.specs.Entries.{Entry, entries_by, items_of_entries, tagged}

pub items_append : (xs ys : List Entry) → items_of_entries (xs ++ ys) ≡ items_of_entries xs ++ items_of_entries ys
unfolding items_of_entries
items_append [] ys = refl
items_append (e ∷ es) ys = ap (λ l. e.1 ∷ l) (items_append es ys)

pub items_tagged : (i : ℕ) (batch : List ℕ) → items_of_entries (tagged i batch) ≡ batch
unfolding items_of_entries
items_tagged i [] = refl
items_tagged i (x ∷ xs) = ap (λ l. x ∷ l) (items_tagged i xs)

pub entries_by_append : (i : ℕ) (xs ys : List Entry) → entries_by i (xs ++ ys) ≡ entries_by i xs ++ entries_by i ys
unfolding entries_by items_of_entries
entries_by_append i [] ys = refl
entries_by_append i (e ∷ es) ys = go (eqb e.0 i) (entries_by_append i es ys)
  where
    go : (c : Bool) → entries_by i (es ++ ys) ≡ entries_by i es ++ entries_by i ys →
        map (λ (e : Entry). e.1) (cond c (e ∷ filter (λ (e : Entry). eqb e.0 i) (es ++ ys)) (filter (λ (e : Entry). eqb e.0 i) (es ++ ys)))
        ≡ map (λ (e : Entry). e.1) (cond c (e ∷ filter (λ (e : Entry). eqb e.0 i) es) (filter (λ (e : Entry). eqb e.0 i) es)) ++ entries_by i ys
    go true same = ap (λ l. e.1 ∷ l) same
    go false same = same

pub entries_by_tagged : (i : ℕ) (batch : List ℕ) → entries_by i (tagged i batch) ≡ batch
unfolding entries_by items_of_entries
entries_by_tagged i [] = refl
entries_by_tagged i (x ∷ xs) =
    ap (λ c. map (λ (e : Entry). e.1) (cond c ((i, x) ∷ filter (λ (e : Entry). eqb e.0 i) (tagged i xs)) (filter (λ (e : Entry). eqb e.0 i) (tagged i xs)))) (eq-eqb i i refl)
    ∙ ap (λ l. x ∷ l) (entries_by_tagged i xs)

pub entries_by_others : (i j : ℕ) (batch : List ℕ) → j ≢ i → entries_by j (tagged i batch) ≡ []
unfolding entries_by items_of_entries
entries_by_others i j [] other = refl
entries_by_others i j (x ∷ xs) other =
    ap (λ c. map (λ (e : Entry). e.1) (cond c ((i, x) ∷ filter (λ (e : Entry). eqb e.0 j) (tagged i xs)) (filter (λ (e : Entry). eqb e.0 j) (tagged i xs)))) (ne_eqb i j (λ e. other (sym e)))
    ∙ entries_by_others i j xs other

pub entries_by_nil : (i : ℕ) → entries_by i [] ≡ []
unfolding entries_by items_of_entries
entries_by_nil i = refl

-- a batch more of one updater
pub entries_by_more : (i : ℕ) (entries : List Entry) (batch : List ℕ) → entries_by i (entries ++ tagged i batch) ≡ entries_by i entries ++ batch
entries_by_more i entries batch = entries_by_append i entries (tagged i batch) ∙ ap (λ l. entries_by i entries ++ l) (entries_by_tagged i batch)
