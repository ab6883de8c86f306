-- Items of which some were kept.
use Rattle.std.proofs.Common.{ℕ, ◌≤◌, List, [], ◌∷◌, ◌++◌, length, append-nil, Bool, inl, inr, refl, sym, ap, subst, arith}
use Rattle.sk_model.specs.Entries.{Entry}
use Rattle.sk_model.specs.Missing.{Begins}
use Rattle.sk_model.proofs.Missing.{begins_trans}
use Rattle.sk_compose.specs.Kept.{IsFiltered, AreKept}

pub kept_append : (keeps : ℕ → ℕ → Bool) (hint : List Entry → ℕ) (base : List Entry) (xs ys ks ls : List ℕ) → AreKept keeps hint base xs ks → AreKept keeps hint base ys ls → AreKept keeps hint base (xs ++ ys) (ks ++ ls)
unfolding AreKept
kept_append keeps hint base [] ys ks ls k l = subst (λ z. AreKept keeps hint base ys (z ++ ls)) (sym k) l
kept_append keeps hint base (x ∷ xs) ys ks ls (inl d) l = inl (d.0, kept_append keeps hint base xs ys ks ls d.1 l)
kept_append keeps hint base (x ∷ xs) ys ks ls (inr d) l = inr (d.0 ++ ls, ap (λ z. z ++ ls) d.1, kept_append keeps hint base xs ys d.0 ls d.2 l)

pub one_kept : (keeps : ℕ → ℕ → Bool) (hint : List Entry → ℕ) (base : List Entry) (item : ℕ) → AreKept keeps hint base (item ∷ []) (item ∷ [])
unfolding AreKept
one_kept keeps hint base item = inr ([], refl, refl)

pub one_dropped : (keeps : ℕ → ℕ → Bool) (hint : List Entry → ℕ) (base : List Entry) (item : ℕ) → IsFiltered keeps hint base item → AreKept keeps hint base (item ∷ []) []
unfolding AreKept
one_dropped keeps hint base item idle = inl (idle, refl)

-- an item more at the end, which is kept
pub keeps_last : (keeps : ℕ → ℕ → Bool) (hint : List Entry → ℕ) (base : List Entry) (items kept : List ℕ) (item : ℕ) → AreKept keeps hint base items kept → AreKept keeps hint base (items ++ item ∷ []) (kept ++ item ∷ [])
keeps_last keeps hint base items kept item k = kept_append keeps hint base items (item ∷ []) kept (item ∷ []) k (one_kept keeps hint base item)

-- one more, which is not
pub drops_last : (keeps : ℕ → ℕ → Bool) (hint : List Entry → ℕ) (base : List Entry) (items kept : List ℕ) (item : ℕ) → IsFiltered keeps hint base item → AreKept keeps hint base items kept → AreKept keeps hint base (items ++ item ∷ []) kept
drops_last keeps hint base items kept item idle k = subst (AreKept keeps hint base (items ++ item ∷ [])) (append-nil kept) (kept_append keeps hint base items (item ∷ []) kept [] k (one_dropped keeps hint base item idle))

-- what is idle by a list is so by each that begins with it
pub idle_longer : (keeps : ℕ → ℕ → Bool) (hint : List Entry → ℕ) (base base' : List Entry) (item : ℕ) → Begins base base' → IsFiltered keeps hint base item → IsFiltered keeps hint base' item
idle_longer keeps hint base base' item b i = (i.0, begins_trans i.0 base base' i.1 b, i.2)

pub kept_longer : (keeps : ℕ → ℕ → Bool) (hint : List Entry → ℕ) (base base' : List Entry) (items kept : List ℕ) → Begins base base' → AreKept keeps hint base items kept → AreKept keeps hint base' items kept
unfolding AreKept
kept_longer keeps hint base base' [] kept b k = k
kept_longer keeps hint base base' (x ∷ xs) kept b (inl d) = inl (idle_longer keeps hint base base' x b d.0, kept_longer keeps hint base base' xs kept b d.1)
kept_longer keeps hint base base' (x ∷ xs) kept b (inr d) = inr (d.0, d.1, kept_longer keeps hint base base' xs d.0 b d.2)

pub kept_few : (keeps : ℕ → ℕ → Bool) (hint : List Entry → ℕ) (base : List Entry) (items kept : List ℕ) → AreKept keeps hint base items kept → length kept ≤ length items
unfolding AreKept
kept_few keeps hint base [] kept k = let e = ap length k in omega arith
kept_few keeps hint base (x ∷ xs) kept (inl d) = let few = kept_few keeps hint base xs kept d.1 in omega arith
kept_few keeps hint base (x ∷ xs) kept (inr d) = let few = kept_few keeps hint base xs d.0 d.2 in let e = ap length d.1 in omega arith
