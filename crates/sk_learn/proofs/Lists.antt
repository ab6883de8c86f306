-- A list of updates that has of each updater no less than it kept, and in all no more entries.
use Rattle.std.proofs.Common.{◌≡◌, ◌≢◌, ℕ, suc, ◌+◌, ◌<◌, ◌≤◌, List, [], ◌∷◌, ◌++◌, length, get_or, All, Contains, refl, sym, ap, ◌∙◌, subst, arith, inl, inr, append-nil, length-append}
use Rattle.std.proofs.lemmas.List.{nil_from_length}
use Rattle.std.proofs.lemmas.List.Elements.{All-nil, All-cons, All-head, All-tail, All-weaker}
use Rattle.std.proofs.lemmas.List.Sums.{sum_by-cons}
use native.Mathlib.Decide.{ℕ_discrete}
use Rattle.sk_model.specs.Entries.{Entry, entries_by, tagged}
use Rattle.sk_model.specs.Missing.{Begins}
use Rattle.sk_model.proofs.Missing.{begins_length}
use Rattle.sk_model.proofs.Entries.{entries_by_append, entries_by_tagged, entries_by_others, entries_by_nil}
use Rattle.sk_model.proofs.Rising.{Has-from_Contains, Contains-from_Has}
use Rattle.sk_hub.specs.Updaters.{UpdaterState, kept_of}
use Rattle.sk_learn.specs.Closing.{AreApart, numbers_of, items_kept, HasExactly}

-- ---- one entry more

pub by_cons : (j : ℕ) (e : Entry) (es : List Entry) → entries_by j (e ∷ es) ≡ entries_by j (tagged e.0 (e.1 ∷ [])) ++ entries_by j es
by_cons j e es = entries_by_append j (tagged e.0 (e.1 ∷ [])) es

by_other : (j : ℕ) (e : Entry) (es : List Entry) → j ≢ e.0 → entries_by j (e ∷ es) ≡ entries_by j es
by_other j e es other = by_cons j e es ∙ ap (λ l. l ++ entries_by j es) (entries_by_others e.0 j (e.1 ∷ []) other)

by_own : (j : ℕ) (e : Entry) (es : List Entry) → e.0 ≡ j → entries_by j (e ∷ es) ≡ e.1 ∷ entries_by j es
by_own j e es is = by_cons j e es ∙ ap (λ l. l ++ entries_by j es) (subst (λ i. entries_by i (tagged e.0 (e.1 ∷ [])) ≡ e.1 ∷ []) is (entries_by_tagged e.0 (e.1 ∷ [])))

-- ---- the entries of all others

if_other : {P : Type 0} → Entry → List Entry → Dec P → List Entry
if_other e es (yes _) = es
if_other e es (no _) = e ∷ es

others : ℕ → List Entry → List Entry
others n [] = []
others n (e ∷ es) = if_other e (others n es) (ℕ_discrete e.0 n)

others_by : (n i : ℕ) (l : List Entry) → i ≢ n → entries_by i (others n l) ≡ entries_by i l
unfolding others if_other
others_by n i [] apart = refl
others_by n i (e ∷ es) apart = go (ℕ_discrete e.0 n) (others_by n i es apart)
  where
    go : (d : Dec (e.0 ≡ n)) → entries_by i (others n es) ≡ entries_by i es → entries_by i (if_other e (others n es) d) ≡ entries_by i (e ∷ es)
    go (yes is) rest = rest ∙ sym (by_other i e es (λ same. apart (same ∙ is)))
    go (no _) rest = by_cons i e (others n es) ∙ ap (λ l. entries_by i (tagged e.0 (e.1 ∷ [])) ++ l) rest ∙ sym (by_cons i e es)

others_count : (n : ℕ) (l : List Entry) → length l ≡ length (entries_by n l) + length (others n l)
unfolding others if_other
others_count n [] = let empty : length (entries_by n []) ≡ 0 = ap length (entries_by_nil n) in let none : 0 ≡ length (entries_by n []) + 0 = omega (arith, empty) in none
others_count n (e ∷ es) = go (ℕ_discrete e.0 n) (others_count n es)
  where
    go : (d : Dec (e.0 ≡ n)) → length es ≡ length (entries_by n es) + length (others n es) → length (e ∷ es) ≡ length (entries_by n (e ∷ es)) + length (if_other e (others n es) d)
    go (yes is) count = omega (arith, count, ap length (by_own n e es is))
    go (no differs) count = omega (arith, count, ap length (by_other n e es (λ same. differs (sym same))))

-- what holds of the entries of one updater and of all others holds of all
all_but : (P : Entry → Type 0) (n : ℕ) (l : List Entry) → ((e : Entry) → e.0 ≡ n → P e) → All P (others n l) → All P l
unfolding others if_other
all_but P n [] own rest = All-nil P
all_but P n (e ∷ es) own rest = go (ℕ_discrete e.0 n) (all_but P n es own) rest
  where
    go : (d : Dec (e.0 ≡ n)) → (All P (others n es) → All P es) → All P (if_other e (others n es) d) → All P (e ∷ es)
    go (yes is) more rest = All-cons P e es (own e is) (more rest)
    go (no _) more rest = All-cons P e es (All-head P e (others n es) rest) (more (All-tail P e (others n es) rest))

-- ---- updaters, one after another

rest_apart : (u : UpdaterState) (us : List UpdaterState) → AreApart (u ∷ us) → AreApart us
rest_apart u us apart = λ i j d before within. apart (suc i) (suc j) d (omega arith) (omega arith)

rest_by : (u : UpdaterState) (us : List UpdaterState) (l : List Entry) → AreApart (u ∷ us) → (i : ℕ) (d : UpdaterState) → i < length us → entries_by (get_or us i d).number (others u.number l) ≡ entries_by (get_or us i d).number l
rest_by u us l apart i d within = others_by u.number (get_or us i d).number l (λ same. apart 0 (suc i) d (omega arith) (omega arith) (sym same))

rest_begun : (u : UpdaterState) (us : List UpdaterState) (l : List Entry) → AreApart (u ∷ us) → All (λ v. Begins (kept_of v) (entries_by v.number l)) (u ∷ us) → All (λ v. Begins (kept_of v) (entries_by v.number (others u.number l))) us
rest_begun u us l apart each = λ i d within. subst (Begins (kept_of (get_or us i d))) (sym (rest_by u us l apart i d within)) (All-tail (λ v. Begins (kept_of v) (entries_by v.number l)) u us each i d within)

pub at_least : (us : List UpdaterState) (l : List Entry) → AreApart us → All (λ v. Begins (kept_of v) (entries_by v.number l)) us → items_kept us ≤ length l
at_least [] l apart each = let none : 0 ≤ length l = omega arith in none
at_least (u ∷ us) l apart each =
    let own : length (kept_of u) ≤ length (entries_by u.number l) = begins_length (kept_of u) (entries_by u.number l) (All-head (λ v. Begins (kept_of v) (entries_by v.number l)) u us each) in
    let rest : items_kept us ≤ length (others u.number l) = at_least us (others u.number l) (rest_apart u us apart) (rest_begun u us l apart each) in
    omega (arith, own, rest, others_count u.number l, sum_by-cons (λ v. length (kept_of v)) u us)

begins_whole : {A : Type 0} (xs ys : List A) → Begins xs ys → length ys ≤ length xs → ys ≡ xs
begins_whole xs ys (rest, is) few =
    let none : rest ≡ [] = nil_from_length rest (omega (arith, few, ap length is, length-append xs rest)) in
    is ∙ ap (λ l. xs ++ l) none ∙ append-nil xs

pub exactly : (us : List UpdaterState) (l : List Entry) → AreApart us → All (λ v. Begins (kept_of v) (entries_by v.number l)) us → length l ≡ items_kept us → HasExactly l us
exactly [] l apart each count =
    let none : l ≡ [] = nil_from_length l count in record {
      each = All-nil (λ (u : UpdaterState). entries_by u.number l ≡ kept_of u);
      only = subst (All (λ (e : Entry). Contains (numbers_of []) e.0)) (sym none) (All-nil (λ (e : Entry). Contains (numbers_of []) e.0));
    }
exactly (u ∷ us) l apart each count =
    let sum : items_kept (u ∷ us) ≡ length (kept_of u) + items_kept us = sum_by-cons (λ v. length (kept_of v)) u us in
    let begun : Begins (kept_of u) (entries_by u.number l) = All-head (λ v. Begins (kept_of v) (entries_by v.number l)) u us each in
    let least : items_kept us ≤ length (others u.number l) = at_least us (others u.number l) (rest_apart u us apart) (rest_begun u us l apart each) in
    let own : entries_by u.number l ≡ kept_of u = begins_whole (kept_of u) (entries_by u.number l) begun (omega (arith, count, sum, least, others_count u.number l)) in
    let rest : HasExactly (others u.number l) us = exactly us (others u.number l) (rest_apart u us apart) (rest_begun u us l apart each) (omega (arith, count, sum, ap length own, others_count u.number l)) in
    record {
      each = All-cons (λ (v : UpdaterState). entries_by v.number l ≡ kept_of v) u us own (λ i d within. sym (rest_by u us l apart i d within) ∙ rest.each i d within);
      only = all_but (λ e. Contains (numbers_of (u ∷ us)) e.0) u.number l
          (λ e is. Contains-from_Has (numbers_of (u ∷ us)) e.0 (inl (sym is)))
          (All-weaker (λ (e : Entry). Contains (numbers_of us) e.0) (λ (e : Entry). Contains (numbers_of (u ∷ us)) e.0) (λ e has. Contains-from_Has (numbers_of (u ∷ us)) e.0 (inr (Has-from_Contains (numbers_of us) e.0 has))) (others u.number l) rest.only);
    }
