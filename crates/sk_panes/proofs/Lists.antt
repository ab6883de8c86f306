-- The lists of closed intervals, as intervals are closed and skipped.
use Rattle.std.proofs.Common.{◌≡◌, ⊎_elim, ℕ, zero, suc, ◌+◌, ◌-◌, ◌<◌, ◌≤◌, List, [], ◌∷◌, ◌++◌, length, map, drop, replicate, flat_map, refl, sym, ap, subst, ◌∙◌, arith, append-nil}
use Rattle.std.specs.List.{range_with_len}
use Rattle.std.proofs.lemmas.Grind.{flat_map-append}
use Rattle.std.proofs.lemmas.List.FromFn.{length-map-range_with_len, map-range_with_len_more}
use Rattle.sk_model.specs.Sketch.{k_smallest}
use Rattle.sk_theta.specs.Kept.{Sketch, StandsFor}
use Rattle.sk_window.specs.Intervals.{StandForEach, all_items, with_closed, with_skipped}
use Rattle.sk_window.proofs.Standing.{skipped_more}
use Rattle.sk_panes.specs.Running.{items_of_interval, earlier_in, items_at, lists_before}
use Rattle.sk_panes.specs.declared.plan.Plan.{Plan}
use Rattle.sk_panes.proofs.Lines.{at_interval, before_all, at_place, same_range}

-- lines by which the intervals before c have the same items
pub lists_same : (plan : Plan) (lines lines' : List (List ℕ)) (c : ℕ) → ((j : ℕ) → j < c → items_of_interval plan lines' j ≡ items_of_interval plan lines j) → lists_before plan lines' c ≡ lists_before plan lines c
lists_same plan lines lines' c same = same_range (items_at plan lines') (items_at plan lines) c (earlier_in plan)
    (λ place low high. ⊎_elim
    (λ early. before_all plan lines' place early ∙ sym (before_all plan lines place early))
    (λ of.
    let j = of.0 in
    subst (λ (p : ℕ). items_at plan lines' p ≡ items_at plan lines p) (sym of.1)
    (at_interval plan lines' j ∙ same j (omega (arith, of.1, high)) ∙ sym (at_interval plan lines j)))
    (at_place plan place))

pub lists_count : (plan : Plan) (lines : List (List ℕ)) (c : ℕ) → length (lists_before plan lines c) ≡ earlier_in plan
lists_count plan lines c = length-map-range_with_len (items_at plan lines) c (earlier_in plan)

-- one more list at the end, in place of the oldest
next_list : (f : ℕ → List ℕ) (c n : ℕ) → drop 1 (map f (range_with_len c (suc n))) ++ f (c + suc n) ∷ [] ≡ map f (range_with_len (c + 1) (suc n))
next_list f c n =
    let at : c + 1 + n ≡ c + suc n = omega arith in
    let one : n + 1 ≡ suc n = omega arith in
    sym (map-range_with_len_more f (c + 1) n (c + suc n) at) ∙ ap (λ (m : ℕ). map f (range_with_len (c + 1) m)) one

pub closed_next : (plan : Plan) (lines : List (List ℕ)) (c : ℕ) → 0 < earlier_in plan → with_closed (lists_before plan lines c) (items_of_interval plan lines c) ≡ lists_before plan lines (c + 1)
closed_next plan lines c some =
    let before : earlier_in plan - 1 + 1 ≡ earlier_in plan = omega arith in
    let n = earlier_in plan - 1 in
    let same : suc n ≡ earlier_in plan = omega arith in
    ap (λ (l : List ℕ). drop 1 (lists_before plan lines c) ++ l ∷ []) (sym (at_interval plan lines c))
    ∙ subst (λ (m : ℕ). drop 1 (map (items_at plan lines) (range_with_len c m)) ++ items_at plan lines (c + m) ∷ [] ≡ map (items_at plan lines) (range_with_len (c + 1) m)) same (next_list (items_at plan lines) c n)

-- intervals in which no line lies are closed with no items
pub skipped_next : (plan : Plan) (lines : List (List ℕ)) (d n : ℕ) → 0 < earlier_in plan → ((j : ℕ) → d ≤ j → j < d + n → items_of_interval plan lines j ≡ []) → with_skipped (lists_before plan lines d) n ≡ lists_before plan lines (d + n)
skipped_next plan lines d zero some none = append-nil (lists_before plan lines d) ∙ ap (lists_before plan lines) (omega arith)
skipped_next plan lines d (suc n) some none =
    let lists = lists_before plan lines d in
    let before = skipped_next plan lines d n some (λ j low high. none j low (omega arith)) in
    let one : suc n ≡ n + 1 = omega arith in
    let many : 0 < length lists = omega (arith, lists_count plan lines d) in
    ap (with_skipped lists) one
    ∙ skipped_more lists n many
    ∙ ap (λ (l : List (List ℕ)). drop 1 l ++ [] ∷ []) before
    ∙ ap (λ (l : List ℕ). drop 1 (lists_before plan lines (d + n)) ++ l ∷ []) (sym (none (d + n) (omega arith) (omega arith)))
    ∙ closed_next plan lines (d + n) some
    ∙ ap (lists_before plan lines) (omega arith)

-- the items of all intervals of a pane, its own last
pub lists_with_own : (plan : Plan) (lines : List (List ℕ)) (c : ℕ) → all_items (lists_before plan lines c) ++ items_of_interval plan lines c ≡ flat_map (items_at plan lines) (range_with_len c (earlier_in plan + 1))
lists_with_own plan lines c =
    let f = items_at plan lines in
    let own : all_items (f (c + earlier_in plan) ∷ []) ≡ items_of_interval plan lines c = append-nil (f (c + earlier_in plan)) ∙ at_interval plan lines c in
    ap (λ (l : List ℕ). all_items (lists_before plan lines c) ++ l) (sym own)
    ∙ sym (flat_map-append (λ (l : List ℕ). l) (lists_before plan lines c) (f (c + earlier_in plan) ∷ []))
    ∙ ap all_items (sym (map-range_with_len_more f c (earlier_in plan) (c + earlier_in plan) refl))
    ∙ flat_of_map f (range_with_len c (earlier_in plan + 1))
  where
    flat_of_map : (f : ℕ → List ℕ) (is : List ℕ) → all_items (map f is) ≡ flat_map f is
    flat_of_map f [] = refl
    flat_of_map f (i ∷ is) = ap (λ (l : List ℕ). f i ++ l) (flat_of_map f is)

-- ---- lists with the same k smallest, each of each

abbrev pub SameEach : ℕ → List (List ℕ) → List (List ℕ) → Type 0
SameEach k [] [] = Unit {0}
SameEach k [] (y ∷ ys) = ⊥
SameEach k (x ∷ xs) [] = ⊥
SameEach k (x ∷ xs) (y ∷ ys) = (k_smallest k x ≡ k_smallest k y) × SameEach k xs ys

pub each_same : (k : ℕ) (xs : List (List ℕ)) → SameEach k xs xs
each_same k [] = tt
each_same k (x ∷ xs) = (refl, each_same k xs)

pub same_append : (k : ℕ) (xs ys us vs : List (List ℕ)) → SameEach k xs ys → SameEach k us vs → SameEach k (xs ++ us) (ys ++ vs)
same_append k [] [] us vs one two = two
same_append k [] (y ∷ ys) us vs one two = absurd one
same_append k (x ∷ xs) [] us vs one two = absurd one
same_append k (x ∷ xs) (y ∷ ys) us vs one two = (one.0, same_append k xs ys us vs one.1 two)

pub same_drop : (k n : ℕ) (xs ys : List (List ℕ)) → SameEach k xs ys → SameEach k (drop n xs) (drop n ys)
same_drop k zero xs ys same = same
same_drop k (suc n) [] [] same = same
same_drop k (suc n) [] (y ∷ ys) same = absurd same
same_drop k (suc n) (x ∷ xs) [] same = absurd same
same_drop k (suc n) (x ∷ xs) (y ∷ ys) same = same_drop k n xs ys same.1

pub stand_same : (k : ℕ) (ss : List Sketch) (xs ys : List (List ℕ)) → SameEach k xs ys → StandForEach k ss xs → StandForEach k ss ys
stand_same k [] [] [] same each = each
stand_same k [] [] (y ∷ ys) same each = absurd same
stand_same k [] (x ∷ xs) ys same each = absurd each
stand_same k (s ∷ ss) [] ys same each = absurd each
stand_same k (s ∷ ss) (x ∷ xs) [] same each = absurd same
stand_same k (s ∷ ss) (x ∷ xs) (y ∷ ys) same each =
    let stands : StandsFor s y = each.1 ∙ subst (λ (n : ℕ). k_smallest n x ≡ k_smallest n y) (sym each.0) same.0 in
    (each.0, stands, stand_same k ss xs ys same.1 each.2)

-- ---- the start

pub none_at_start : (plan : Plan) → lists_before plan [] 0 ≡ replicate (earlier_in plan) []
none_at_start plan = same_range (items_at plan []) (λ _. []) 0 (earlier_in plan) (λ i low high. before_all plan [] i (omega arith)) ∙ all_none 0 (earlier_in plan)
  where
    all_none : (from n : ℕ) → map {A = ℕ} {B = List ℕ} (λ _. []) (range_with_len from n) ≡ replicate n []
    all_none from zero = refl
    all_none from (suc n) = ap (λ (l : List (List ℕ)). [] ∷ l) (all_none (from + 1) n)
