-- Functions of an updater's number, and what they add up to.
use Rattle.std.proofs.Common.{◌≡◌, ◌≢◌, ℕ, zero, suc, ◌+◌, ◌*◌, ◌<◌, ◌≤◌, get_or, set, get_or-set_same, get_or-set_other, List, [], ◌∷◌, ◌++◌, length, All, refl, sym, ap, ◌∙◌, subst, arith}
use Rattle.std.proofs.lemmas.List.Elements.{All-head, All-tail}
use mathlib.Core.Logic.{dite}
use native.Mathlib.Decide.{ℕ_discrete}
use Rattle.sk_model.specs.Entries.{Entry, entries_by, tagged}
use Rattle.sk_model.proofs.Entries.{entries_by_append, entries_by_tagged, entries_by_others, entries_by_nil}
use Rattle.sk_machine.specs.Numbered.{chosen, put, sum_below}

pub put_here : {A : Type 0} (f : ℕ → A) (i : ℕ) (c : A) → put f i c i ≡ c
unfolding put
put_here {A} f i c = go (ℕ_discrete i i)
  where
    go : (d : Dec (i ≡ i)) → chosen d c (f i) ≡ c
    go (yes _) = refl
    go (no n) = absurd (n refl)

pub put_else : {A : Type 0} (f : ℕ → A) (i : ℕ) (c : A) (j : ℕ) → j ≢ i → put f i c j ≡ f j
unfolding put
put_else {A} f i c j other = go (ℕ_discrete j i)
  where
    go : (d : Dec (j ≡ i)) → chosen d c (f j) ≡ f j
    go (yes e) = absurd (other e)
    go (no _) = refl

-- a fact on each number, where one has a new value
pub each_put : {A : Type 0} (P : ℕ → A → Type 0) (f : ℕ → A) (i : ℕ) (c : A) (j : ℕ) → P i c → (j ≢ i → P j (f j)) → P j (put f i c j)
each_put P f i c j mine others = dite (ℕ_discrete j i)
    (λ e. subst (λ k. P k (put f i c k)) (sym e) (subst (P i) (sym (put_here f i c)) mine))
    (λ n. subst (P j) (sym (put_else f i c j n)) (others n))

-- a list that is set at one place, as a function of the place
pub put-set : {A B : Type 0} (f : A → B) (l : List A) (i : ℕ) (x d : A) → i < length l → (λ (j : ℕ). f (get_or (set l i x) j d)) ≡ put (λ j. f (get_or l j d)) i (f x)
put-set f l i x d h = λ a j. at j a
  where
    at : (j : ℕ) → f (get_or (set l i x) j d) ≡ put (λ k. f (get_or l k d)) i (f x) j
    at j = dite (ℕ_discrete j i)
        (λ e. ap (λ k. f (get_or (set l i x) k d)) e ∙ ap f (get_or-set_same l i x d h) ∙ sym (put_here (λ k. f (get_or l k d)) i (f x)) ∙ ap (put (λ k. f (get_or l k d)) i (f x)) (sym e))
        (λ n. ap f (get_or-set_other l i j x d n) ∙ sym (put_else (λ k. f (get_or l k d)) i (f x) j n))

sum_below_same : (n : ℕ) (f g : ℕ → ℕ) → ((i : ℕ) → i < n → f i ≡ g i) → sum_below n f ≡ sum_below n g
unfolding sum_below
sum_below_same zero f g same = refl
sum_below_same (suc n) f g same = let e = sum_below_same n f g (λ i l. same i (omega arith)) in let l = same n (omega arith) in omega arith

-- one more at one number
sum_below_more : (n i : ℕ) (f g : ℕ → ℕ) → i < n → f i ≡ g i + 1 → ((j : ℕ) → j ≢ i → f j ≡ g j) → sum_below n f ≡ sum_below n g + 1
unfolding sum_below
sum_below_more zero i f g inside more others = absurd (omega arith)
sum_below_more (suc n) i f g inside more others = dite (ℕ_discrete i n)
    (λ e. let same : sum_below n f ≡ sum_below n g = sum_below_same n f g (λ j l. others j (λ z. omega arith)) in
    let here : f n ≡ g n + 1 = subst (λ k. f k ≡ g k + 1) e more in omega arith)
    (λ ne. let same : sum_below n f ≡ sum_below n g + 1 = sum_below_more n i f g (omega arith) more others in
    let here : f n ≡ g n = others n (λ z. ne (sym z)) in omega arith)

pub sum_below_least : (n : ℕ) (f g : ℕ → ℕ) → ((i : ℕ) → i < n → f i ≤ g i) → sum_below n f ≤ sum_below n g
unfolding sum_below
sum_below_least zero f g le = omega arith
sum_below_least (suc n) f g le = let e = sum_below_least n f g (λ i l. le i (omega arith)) in let l = le n (omega arith) in omega arith

pub sum_below_most : (n most : ℕ) (f : ℕ → ℕ) → ((i : ℕ) → i < n → f i ≤ most) → sum_below n f ≤ n * most
unfolding sum_below
sum_below_most zero most f le = omega arith
sum_below_most (suc n) most f le = let e = sum_below_most n most f (λ i l. le i (omega arith)) in let l = le n (omega arith) in omega arith

-- one of the numbers is no more than all
pub sum_below_one : (n i : ℕ) (f : ℕ → ℕ) → i < n → f i ≤ sum_below n f
unfolding sum_below
sum_below_one zero i f inside = absurd (omega arith)
sum_below_one (suc n) i f inside = dite (ℕ_discrete i n)
    (λ e. let same : f i ≡ f n = ap f e in omega arith)
    (λ ne. let less : f i ≤ sum_below n f = sum_below_one n i f (omega arith) in omega arith)

-- how many entries each updater has, with one more entry
by_cons : (j : ℕ) (e : Entry) (es : List Entry) → entries_by j (e ∷ es) ≡ entries_by j (tagged e.0 (e.1 ∷ [])) ++ entries_by j es
by_cons j e es = entries_by_append j (tagged e.0 (e.1 ∷ [])) es

count_here : (e : Entry) (es : List Entry) → length (entries_by e.0 (e ∷ es)) ≡ length (entries_by e.0 es) + 1
count_here e es = ap length (by_cons e.0 e es ∙ ap (λ l. l ++ entries_by e.0 es) (entries_by_tagged e.0 (e.1 ∷ []))) ∙ omega arith

count_others : (j : ℕ) (e : Entry) (es : List Entry) → j ≢ e.0 → length (entries_by j (e ∷ es)) ≡ length (entries_by j es)
count_others j e es other = ap length (by_cons j e es ∙ ap (λ l. l ++ entries_by j es) (entries_by_others e.0 j (e.1 ∷ []) other))

sum_of_nothing : (n : ℕ) → sum_below n (λ i. length (entries_by i [])) ≡ 0
unfolding sum_below
sum_of_nothing zero = refl
sum_of_nothing (suc n) = let e = sum_of_nothing n in let l : length (entries_by n []) ≡ 0 = ap length (entries_by_nil n) in omega arith

-- a list of entries of updaters below n has those of each of them
pub length_by : (n : ℕ) (l : List Entry) → All (λ e. e.0 < n) l → length l ≡ sum_below n (λ i. length (entries_by i l))
length_by n [] all = sym (sum_of_nothing n)
length_by n (e ∷ es) all =
    let rest = length_by n es (All-tail (λ (x : Entry). x.0 < n) e es all) in
    let inside : e.0 < n = All-head (λ (x : Entry). x.0 < n) e es all in
    let more = sum_below_more n e.0 (λ i. length (entries_by i (e ∷ es))) (λ i. length (entries_by i es)) inside (count_here e es) (λ j other. count_others j e es other) in
    omega arith
