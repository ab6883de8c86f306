-- What stands in the list of all functions, and in that of all subsets.
use Rattle.std.proofs.Common.{◌≡◌, ◌≢◌, ℕ, zero, suc, ◌+◌, ◌*◌, ◌^◌, ◌<◌, ◌≤◌, List, [], ◌∷◌, ◌++◌, map, length, take, get_or, All, Contains, AllPairs, ⊎_elim, refl, sym, ap, ◌∙◌, subst, arith, sum_by, length-append}
use Rattle.std.specs.List.{flat_map}
use Rattle.std.specs.List.Sorted.{IsStrictlyIncreasing}
use Rattle.std.proofs.lemmas.Bool.{cases_lt}
use Rattle.std.proofs.lemmas.List.{take_more, take_all, length-take-le, same_from_push}
use Rattle.std.proofs.lemmas.List.Kept.{AllPairs-cons}
use Rattle.std.proofs.lemmas.List.Elements.{All-nil, All-cons, All-append, All-map, All-head, All-take, All-contains, Contains-append_left, Contains-append_right, Contains-push}
use Rattle.std.proofs.Math.Nat.{pow-suc, pow-zero}
use Rattle.sk_model.specs.Limits.{IsFrom}
use Rattle.sk_model.proofs.Rising.{RisesFrom, RisesFrom-increasing, increasing_from_RisesFrom}
use Rattle.sk_odds.specs.Odds.{subsets, numbers, functions}
use Rattle.sk_odds.proofs.Choices.{IsSubset, All-subsets, All-of, sum_by-same, sum_by-const, length-map}
use Rattle.sk_odds.proofs.Functions.{sum_by-flat_map}
use Rattle.sk_odds.proofs.Extend.{Ends, split_last, rises-from_1, Hashes, functions-are}

-- ---- how many functions

ones : {X : Type 0} (xs : List X) → sum_by (λ x. 1) xs ≡ length xs
ones xs = sum_by-const 1 xs ∙ omega arith

length-numbers : (m : ℕ) → length (numbers m) ≡ m
unfolding numbers
length-numbers zero = refl
length-numbers (suc m) = omega (arith, length-append (numbers m) (suc m ∷ []), length-numbers m)

pub length-functions : (n m : ℕ) → length (functions n m) ≡ m ^ n
unfolding functions
length-functions zero m = sym (pow-zero m)
length-functions (suc n) m =
    let each : sum_by (λ w. 1) (functions (suc n) m) ≡ m * length (functions n m) =
    sum_by-flat_map (λ w. 1) (λ hashes. map (λ x. hashes ++ x ∷ []) (numbers m)) (functions n m)
    ∙ sum_by-same (λ w. sum_by (λ t. 1) (map (λ x. w ++ x ∷ []) (numbers m))) (λ w. m) (functions n m)
    (λ k d inside. ones (map (λ x. get_or (functions n m) k d ++ x ∷ []) (numbers m)) ∙ length-map (λ x. get_or (functions n m) k d ++ x ∷ []) (numbers m) ∙ length-numbers m)
    ∙ sum_by-const m (functions n m) in
    omega (arith, ones (functions (suc n) m), each, ap (λ z. m * z) (length-functions n m), pow-suc m n)

-- ---- members

at_flat_map : {X Y : Type 0} (g : X → List Y) (xs : List X) (x : X) (y : Y) (k : ℕ) → k < length xs → get_or xs k x ≡ x → Contains (g x) y → Contains (flat_map g xs) y
at_flat_map g [] x y k inside is has = absurd (omega arith)
at_flat_map g (z ∷ xs) x y zero inside is has = Contains-append_left (g z) (flat_map g xs) y (subst (λ t. Contains (g t) y) (sym is) has)
at_flat_map g (z ∷ xs) x y (suc k) inside is has = Contains-append_right (g z) (flat_map g xs) y (at_flat_map g xs x y k (omega arith) is has)

at_map : {X Y : Type 0} (h : X → Y) (xs : List X) (x : X) (k : ℕ) → k < length xs → get_or xs k x ≡ x → Contains (map h xs) (h x)
at_map h [] x k inside is = absurd (omega arith)
at_map h (z ∷ xs) x zero inside is = (0, omega arith, ap h is)
at_map h (z ∷ xs) x (suc k) inside is = let rest = at_map h xs x k (omega arith) is in let in_rest = rest.1 in (suc rest.0, omega arith, rest.2)

contains-numbers : (m x : ℕ) → 1 ≤ x → x ≤ m → Contains (numbers m) x
unfolding numbers
contains-numbers zero x low high = absurd (omega arith)
contains-numbers (suc m) x low high =
    ⊎_elim (λ above. let e : suc m ≡ x = omega arith in subst (λ z. Contains (numbers m ++ suc m ∷ []) z) e (Contains-push (numbers m) (suc m)))
    (λ within. Contains-append_left (numbers m) (suc m ∷ []) x (contains-numbers m x low within))
    (cases_lt m x)

none_left : (hashes : List ℕ) → length hashes ≡ 0 → [] ≡ hashes
none_left [] is = refl
none_left (x ∷ hashes) is = absurd (omega arith)

pub contains-functions : (n m : ℕ) (hashes : List ℕ) → length hashes ≡ n → All (IsFrom 1 m) hashes → Contains (functions n m) hashes
unfolding functions
contains-functions zero m hashes is all = (0, omega arith, none_left hashes is)
contains-functions (suc n) m hashes is all =
    let inside : n < length hashes = omega arith in
    let last = get_or hashes n 0 in
    let front = take n hashes in
    let whole : front ++ last ∷ [] ≡ hashes = sym (take_more hashes n 0 inside) ∙ take_all (n + 1) hashes (omega arith) in
    let size : length front ≡ n = length-take-le n hashes (omega arith) in
    let ih : Contains (functions n m) front = contains-functions n m front size (All-take (IsFrom 1 m) n hashes all) in
    let within = all n 0 inside in
    let number : Contains (numbers m) last = contains-numbers m last within.0 within.1 in
    subst (λ l. Contains (functions (suc n) m) l) whole
    (at_flat_map (λ w. map (λ x. w ++ x ∷ []) (numbers m)) (functions n m) front (front ++ last ∷ []) ih.0 ih.1 ih.2
    (at_map (λ x. front ++ x ∷ []) (numbers m) last number.0 number.1 number.2))

pub functions_within : (n m : ℕ) (hashes : List ℕ) → Contains (functions n m) hashes → (length hashes ≡ n) × All (IsFrom 1 m) hashes
functions_within n m hashes has =
    let is : Hashes n m hashes = All-contains (Hashes n m) (functions n m) hashes (functions-are n m) has in
    (is.size, λ k d inside. (is.least k d inside, is.most k d inside))

-- ---- subsets

all_from_1 : (b : ℕ) (s : List ℕ) → 1 ≤ b → RisesFrom b s → All (λ z. 1 ≤ z) s
all_from_1 b [] some up = All-nil (λ z. 1 ≤ z)
all_from_1 b (x ∷ s) some up = All-cons (λ z. 1 ≤ z) x s (omega (arith, up.0)) (all_from_1 (suc x) s (omega arith) up.1)

subset_in : (n m : ℕ) (s : List ℕ) → IsSubset n m s → Contains (subsets n m) s
unfolding subsets
subset_in zero m s is = (0, omega arith, none_left s is.size)
subset_in (suc n) zero [] is = absurd (omega (arith, is.size))
subset_in (suc n) zero (x ∷ s) is = absurd (omega (arith, is.rises.0, is.within 0 0 (omega arith)))
subset_in (suc n) (suc m) s is =
    ⊎_elim
    (λ within. Contains-append_left (subsets (suc n) m) (map (λ t. t ++ suc m ∷ []) (subsets n m)) s (subset_in (suc n) m s (record { size = is.size; rises = is.rises; within = within })))
    (λ h. longer (subset_in n m) h.0 h.1)
    (split_last 1 m s is.rises is.within)
  where
    longer : ((t : List ℕ) → IsSubset n m t → Contains (subsets n m) t) → (t : List ℕ) → Ends 1 m s t → Contains (subsets (suc n) (suc m)) s
    longer known t ends =
        let size : length t ≡ n = omega (arith, is.size, ap length ends.is, length-append t (suc m ∷ [])) in
        let ih : Contains (subsets n m) t = known t (record { size = size; rises = ends.rises; within = ends.within }) in
        subst (λ l. Contains (subsets (suc n) (suc m)) l) (sym ends.is)
        (Contains-append_right (subsets (suc n) m) (map (λ t. t ++ suc m ∷ []) (subsets n m)) (t ++ suc m ∷ []) (at_map (λ t. t ++ suc m ∷ []) (subsets n m) t ih.0 ih.1 ih.2))

pub contains-subsets : (n m : ℕ) (s : List ℕ) → length s ≡ n → IsStrictlyIncreasing s → All (IsFrom 1 m) s → Contains (subsets n m) s
contains-subsets n m s size up all =
    subset_in n m s (record { size = size; rises = rises-from_1 s (RisesFrom-increasing s up) (λ k d inside. (all k d inside).0); within = λ k d inside. (all k d inside).1 })

pub subsets_within : (n m : ℕ) (s : List ℕ) → Contains (subsets n m) s → (length s ≡ n) × IsStrictlyIncreasing s × All (IsFrom 1 m) s
subsets_within n m s has =
    let is : IsSubset n m s = All-contains (IsSubset n m) (subsets n m) s (All-subsets n m) has in
    (is.size, increasing_from_RisesFrom 1 s is.rises, λ k d inside. (all_from_1 1 s (omega arith) is.rises k d inside, is.within k d inside))

-- ---- none stands twice

pairs-append : {X : Type 0} (xs ys : List X) → AllPairs (λ x y. x ≢ y) xs → AllPairs (λ x y. x ≢ y) ys → All (λ x. All (λ y. x ≢ y) ys) xs → AllPairs (λ x y. x ≢ y) (xs ++ ys)
pairs-append [] ys pairs pairs' apart = pairs'
pairs-append (x ∷ xs) ys pairs pairs' apart =
    AllPairs-cons (λ x y. x ≢ y) x (xs ++ ys)
    (All-append (λ y. x ≢ y) xs ys (λ k d inside. pairs 0 (suc k) d (omega arith) (omega arith)) (All-head (λ z. All (λ y. z ≢ y) ys) x xs apart))
    (pairs-append xs ys (λ i j d less inside. pairs (suc i) (suc j) d (omega arith) (omega arith)) pairs' (λ k d inside. apart (suc k) d (omega arith)))

pairs-map : {X Y : Type 0} (h : X → Y) (xs : List X) → ((x y : X) → h x ≡ h y → x ≡ y) → AllPairs (λ x y. x ≢ y) xs → AllPairs (λ x y. x ≢ y) (map h xs)
pairs-map h [] one pairs = λ i j d less inside. absurd (omega arith)
pairs-map h (x ∷ xs) one pairs =
    AllPairs-cons (λ x y. x ≢ y) (h x) (map h xs)
    (All-map (λ y. h x ≢ y) h xs (λ k d inside is. pairs 0 (suc k) d (omega arith) (omega arith) (one x (get_or xs k d) is)))
    (pairs-map h xs one (λ i j d less inside. pairs (suc i) (suc j) d (omega arith) (omega arith)))

apart_by_last : (m : ℕ) (s t : List ℕ) → All (λ z. z ≤ m) s → s ≢ (t ++ suc m ∷ [])
apart_by_last m s t within is =
    let high : suc m ≤ m = All-contains (λ z. z ≤ m) (t ++ suc m ∷ []) (suc m) (subst (All (λ z. z ≤ m)) is within) (Contains-push t (suc m)) in
    absurd (omega arith)

pub subsets_once : (n m : ℕ) → AllPairs (λ s t. s ≢ t) (subsets n m)
unfolding subsets
subsets_once zero m = λ i j d less inside. absurd (omega arith)
subsets_once (suc n) zero = λ i j d less inside. absurd (omega arith)
subsets_once (suc n) (suc m) =
    pairs-append (subsets (suc n) m) (map (λ t. t ++ suc m ∷ []) (subsets n m)) (subsets_once (suc n) m)
    (pairs-map (λ t. t ++ suc m ∷ []) (subsets n m) (λ s t is. (same_from_push s t (suc m) (suc m) is).0) (subsets_once n m))
    (All-of (suc n) m (λ s. All (λ y. s ≢ y) (map (λ t. t ++ suc m ∷ []) (subsets n m)))
    (λ s is. All-map (λ y. s ≢ y) (λ t. t ++ suc m ∷ []) (subsets n m) (λ k d inside. apart_by_last m s (get_or (subsets n m) k d) is.within)))
