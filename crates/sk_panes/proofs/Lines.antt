-- The items of lines by the intervals that they lie in.
use Rattle.std.proofs.Common.{◌≡◌, ◌⊎◌, inl, inr, ⊎_elim, ℕ, zero, suc, ◌+◌, ◌-◌, ◌<◌, ◌≤◌, ◌&&◌, ◌==◌, max, nat_lt, nat_le, if◌then◌else◌, Bool, true, false, List, [], ◌∷◌, ◌++◌, length, map, filter, fold, flat_map, refl, sym, ap, subst, ◌∙◌, arith, append-nil}
use Rattle.std.specs.List.{range_with_len}
use Rattle.std.proofs.lemmas.Bool.{cases_lt}
use Rattle.std.proofs.lemmas.Bool.Decides.{nat_tests}
use Rattle.std.proofs.lemmas.List.{map-append}
use Rattle.std.proofs.lemmas.List.Elements.{filter-append}
use Rattle.std.proofs.lemmas.List.Sums.{fold-append}
use Rattle.sk_model.proofs.Rising.{Has, Has-from_Contains, Contains-from_Has}
use Rattle.sk_model.proofs.Sketch.{k_smallest_of_members}
use Rattle.sk_model.specs.Sketch.{k_smallest}
use Rattle.sk_compose.proofs.Smallest.{in_some_part, in_all_parts}
use Rattle.sk_panes.specs.Panes.{interval_of, item_of, running_after, is_in_pane, pane_items}
use Rattle.sk_panes.specs.Running.{is_in_interval, items_of_interval, earlier_in, items_at}
use Rattle.sk_panes.specs.declared.plan.Plan.{Plan}

-- ---- tests of lines

-- one more line at the end, which passes a test or not
pub one_taken : {X : Type 0} (f : X → ℕ) (p : X → Bool) (xs : List X) (x : X) → p x ≡ true → map f (filter p (xs ++ x ∷ [])) ≡ map f (filter p xs) ++ f x ∷ []
one_taken f p xs x passes =
    let one : filter p (x ∷ []) ≡ x ∷ [] = ap (λ (b : Bool). if b then x ∷ [] else []) passes in
    ap (map f) (filter-append p xs (x ∷ []) ∙ ap (λ l. filter p xs ++ l) one) ∙ map-append f (filter p xs) (x ∷ [])

pub one_left : {X : Type 0} (f : X → ℕ) (p : X → Bool) (xs : List X) (x : X) → p x ≡ false → map f (filter p (xs ++ x ∷ [])) ≡ map f (filter p xs)
one_left f p xs x fails =
    let none : filter p (x ∷ []) ≡ [] = ap (λ (b : Bool). if b then x ∷ [] else []) fails in
    ap (map f) (filter-append p xs (x ∷ []) ∙ ap (λ l. filter p xs ++ l) none ∙ append-nil (filter p xs))

-- the members of what passes a test, line by line
has_step : {X : Type 0} (f : X → ℕ) (b : Bool) (x : X) (ys : List X) (z : ℕ) → Has (map f (if b then x ∷ ys else ys)) z → ((b ≡ true) × (f x ≡ z)) ⊎ Has (map f ys) z
has_step f true x ys z (inl is) = inl (refl, is)
has_step f true x ys z (inr h) = inr h
has_step f false x ys z h = inr h

has_first : {X : Type 0} (f : X → ℕ) (b : Bool) (x : X) (ys : List X) (z : ℕ) → b ≡ true → f x ≡ z → Has (map f (if b then x ∷ ys else ys)) z
has_first f true x ys z passes is = inl is
has_first f false x ys z passes is = let no : ⊥ = cc in absurd no

has_rest : {X : Type 0} (f : X → ℕ) (b : Bool) (x : X) (ys : List X) (z : ℕ) → Has (map f ys) z → Has (map f (if b then x ∷ ys else ys)) z
has_rest f true x ys z h = inr h
has_rest f false x ys z h = h

-- what passes one test passes another
pub passed : {X : Type 0} (f : X → ℕ) (p q : X → Bool) (xs : List X) (z : ℕ) → ((x : X) → p x ≡ true → q x ≡ true) → Has (map f (filter p xs)) z → Has (map f (filter q xs)) z
passed f p q [] z implies h = absurd h
passed f p q (x ∷ xs) z implies h = ⊎_elim
    (λ first. has_first f (q x) x (filter q xs) z (implies x first.0) first.1)
    (λ later. has_rest f (q x) x (filter q xs) z (passed f p q xs z implies later))
    (has_step f (p x) x (filter p xs) z h)

pub both_true : (b c : Bool) → b ≡ true → c ≡ true → (b && c) ≡ true
both_true true c bt ct = ct
both_true false c bt ct = bt

pub both_are : (b c : Bool) → (b && c) ≡ true → (b ≡ true) × (c ≡ true)
both_are true c h = (refl, h)
both_are false c h = let no : ⊥ = cc in absurd no

pub second_fails : (b c : Bool) → c ≡ false → (b && c) ≡ false
second_fails true c is = is
second_fails false c is = refl

pub other_interval : (plan : Plan) (j : ℕ) (line : List ℕ) → (interval_of plan line ≡ j → ⊥) → is_in_interval plan j line ≡ false
other_interval plan j line other =
    let no : (interval_of plan line == j) ≡ false = grind (arith, nat_tests) in
    second_fails (nat_lt 0 (length line)) (interval_of plan line == j) no

pub own_interval : (plan : Plan) (line : List ℕ) → 0 < length line → is_in_interval plan (interval_of plan line) line ≡ true
own_interval plan line some =
    let one : nat_lt 0 (length line) ≡ true = grind (arith, nat_tests) in
    let two : (interval_of plan line == interval_of plan line) ≡ true = grind (arith, nat_tests) in
    both_true (nat_lt 0 (length line)) (interval_of plan line == interval_of plan line) one two

in_pane : (plan : Plan) (c j : ℕ) (line : List ℕ) → j ≤ c → c < j + plan.last → is_in_interval plan j line ≡ true → is_in_pane plan c line ≡ true
in_pane plan c j line low high is =
    let parts = both_are (nat_lt 0 (length line)) (interval_of plan line == j) is in
    let same : interval_of plan line ≡ j = let it = parts.1 in grind (arith, nat_tests) in
    let two : nat_le (interval_of plan line) c ≡ true = grind (arith, nat_tests) in
    let three : nat_lt c (interval_of plan line + plan.last) ≡ true = grind (arith, nat_tests) in
    both_true (nat_lt 0 (length line) && nat_le (interval_of plan line) c) (nat_lt c (interval_of plan line + plan.last))
    (both_true (nat_lt 0 (length line)) (nat_le (interval_of plan line) c) parts.0 two) three

in_own : (plan : Plan) (c : ℕ) (line : List ℕ) → is_in_pane plan c line ≡ true → (is_in_interval plan (interval_of plan line) line ≡ true) × (interval_of plan line ≤ c) × (c < interval_of plan line + plan.last)
in_own plan c line is =
    let two = both_are (nat_lt 0 (length line) && nat_le (interval_of plan line) c) (nat_lt c (interval_of plan line + plan.last)) is in
    let one = both_are (nat_lt 0 (length line)) (nat_le (interval_of plan line) c) two.0 in
    let some : 0 < length line = let it = one.0 in grind (arith, nat_tests) in
    let low : interval_of plan line ≤ c = let it = one.1 in grind (arith, nat_tests) in
    let high : c < interval_of plan line + plan.last = let it = two.1 in grind (arith, nat_tests) in
    (own_interval plan line some, low, high)

-- ---- the interval that runs

pub running_more : (plan : Plan) (lines : List (List ℕ)) (line : List ℕ) → running_after plan (lines ++ line ∷ []) ≡ max (running_after plan lines) (interval_of plan line)
running_more plan lines line = fold-append (λ latest l. max latest (interval_of plan l)) 0 lines (line ∷ [])

from_latest : (plan : Plan) (a : ℕ) (lines : List (List ℕ)) → a ≤ fold (λ latest line. max latest (interval_of plan line)) a lines
from_latest plan a [] = omega arith
from_latest plan a (line ∷ lines) = omega (arith, from_latest plan (max a (interval_of plan line)) lines)

-- no line lies in a later one
none_from : (plan : Plan) (a j : ℕ) (lines : List (List ℕ)) → fold (λ latest line. max latest (interval_of plan line)) a lines < j → items_of_interval plan lines j ≡ []
none_from plan a j [] later = refl
none_from plan a j (line ∷ lines) later =
    let less : interval_of plan line < j = omega (arith, from_latest plan (max a (interval_of plan line)) lines, later) in
    let rest = filter (is_in_interval plan j) lines in
    ap (λ (b : Bool). map (item_of plan) (if b then line ∷ rest else rest)) (other_interval plan j line (λ same. omega arith))
    ∙ none_from plan (max a (interval_of plan line)) j lines later

pub none_later : (plan : Plan) (lines : List (List ℕ)) (j : ℕ) → running_after plan lines < j → items_of_interval plan lines j ≡ []
none_later plan lines j later = none_from plan 0 j lines later

-- ---- one more line

pub interval_more : (plan : Plan) (lines : List (List ℕ)) (line : List ℕ) → 0 < length line → items_of_interval plan (lines ++ line ∷ []) (interval_of plan line) ≡ items_of_interval plan lines (interval_of plan line) ++ item_of plan line ∷ []
interval_more plan lines line some = one_taken (item_of plan) (is_in_interval plan (interval_of plan line)) lines line (own_interval plan line some)

pub interval_stays : (plan : Plan) (lines : List (List ℕ)) (line : List ℕ) (j : ℕ) → is_in_interval plan j line ≡ false → items_of_interval plan (lines ++ line ∷ []) j ≡ items_of_interval plan lines j
interval_stays plan lines line j other = one_left (item_of plan) (is_in_interval plan j) lines line other

-- ---- the intervals of a pane, from the first one that pane 0 is of

pub at_interval : (plan : Plan) (lines : List (List ℕ)) (j : ℕ) → items_at plan lines (j + earlier_in plan) ≡ items_of_interval plan lines j
unfolding items_at
at_interval plan lines j =
    let past : nat_lt (j + earlier_in plan) (earlier_in plan) ≡ false = grind (arith, nat_tests) in
    let same : j + earlier_in plan - earlier_in plan ≡ j = omega arith in
    ap (λ (b : Bool). if b then [] else items_of_interval plan lines (j + earlier_in plan - earlier_in plan)) past ∙ ap (items_of_interval plan lines) same

pub before_all : (plan : Plan) (lines : List (List ℕ)) (place : ℕ) → place < earlier_in plan → items_at plan lines place ≡ []
unfolding items_at
before_all plan lines place less =
    let early : nat_lt place (earlier_in plan) ≡ true = grind (arith, nat_tests) in
    ap (λ (b : Bool). if b then [] else items_of_interval plan lines (place - earlier_in plan)) early

-- a place is before interval 0, or that of an interval
pub at_place : (plan : Plan) (place : ℕ) → (place < earlier_in plan) ⊎ ((j : ℕ) × (place ≡ j + earlier_in plan))
at_place plan place = ⊎_elim inl (λ (past : earlier_in plan ≤ place). let same : place ≡ place - earlier_in plan + earlier_in plan = omega arith in inr (place - earlier_in plan, same)) (cases_lt place (earlier_in plan))

pub same_range : {X : Type 0} (f g : ℕ → X) (from n : ℕ) → ((i : ℕ) → from ≤ i → i < from + n → f i ≡ g i) → map f (range_with_len from n) ≡ map g (range_with_len from n)
same_range f g from zero same = refl
same_range f g from (suc n) same =
    ap (λ x. x ∷ map f (range_with_len (from + 1) n)) (same from (omega arith) (omega arith))
    ∙ ap (λ l. g from ∷ l) (same_range f g (from + 1) n (λ i low high. same i (omega arith) (omega arith)))

-- ---- the items of a pane

-- an item of a pane is one of an interval that it is of
some_interval : (plan : Plan) (c z : ℕ) (lines : List (List ℕ)) → Has (pane_items plan c lines) z → (j : ℕ) × (j ≤ c) × (c < j + plan.last) × Has (items_of_interval plan lines j) z
some_interval plan c z [] h = absurd h
some_interval plan c z (line ∷ lines) h = ⊎_elim
    (λ first.
    let own = in_own plan c line first.0 in
    (interval_of plan line, own.1, own.2, has_first (item_of plan) (is_in_interval plan (interval_of plan line) line) line (filter (is_in_interval plan (interval_of plan line)) lines) z own.0 first.1))
    (λ later.
    let some = some_interval plan c z lines later in
    (some.0, some.1, some.2, has_rest (item_of plan) (is_in_interval plan some.0 line) line (filter (is_in_interval plan some.0) lines) z some.3))
    (has_step (item_of plan) (is_in_pane plan c line) line (filter (is_in_pane plan c) lines) z h)

-- the lists of its intervals have the k smallest of its items
pub pane_of_intervals : (plan : Plan) (lines : List (List ℕ)) (c k : ℕ) → 1 ≤ plan.last → k_smallest k (flat_map (items_at plan lines) (range_with_len c (earlier_in plan + 1))) ≡ k_smallest k (pane_items plan c lines)
pane_of_intervals plan lines c k last = k_smallest_of_members k all (pane_items plan c lines)
    (λ z has. Contains-from_Has (pane_items plan c lines) z (into z (Has-from_Contains all z has)))
    (λ z has. Contains-from_Has all z (back z (Has-from_Contains (pane_items plan c lines) z has)))
  where
    all : List ℕ
    all = flat_map (items_at plan lines) (range_with_len c (earlier_in plan + 1))

    into : (z : ℕ) → Has (flat_map (items_at plan lines) (range_with_len c (earlier_in plan + 1))) z → Has (pane_items plan c lines) z
    into z h =
        let some = in_some_part (items_at plan lines) c (earlier_in plan + 1) z h in
        let place = some.0 in
        ⊎_elim
        (λ early. absurd (subst (λ l. Has l z) (before_all plan lines place early) some.3))
        (λ of.
        let j = of.0 in
        let its : Has (items_of_interval plan lines j) z = subst (λ l. Has l z) (ap (items_at plan lines) of.1 ∙ at_interval plan lines j) some.3 in
        passed (item_of plan) (is_in_interval plan j) (is_in_pane plan c) lines z (λ line is. in_pane plan c j line (omega (arith, of.1, some.2)) (omega (arith, of.1, some.1, last)) is) its)
        (at_place plan place)

    back : (z : ℕ) → Has (pane_items plan c lines) z → Has (flat_map (items_at plan lines) (range_with_len c (earlier_in plan + 1))) z
    back z h =
        let some = some_interval plan c z lines h in
        in_all_parts (items_at plan lines) c (earlier_in plan + 1) (some.0 + earlier_in plan) z (omega (arith, some.2)) (omega (arith, some.1))
        (subst (λ l. Has l z) (sym (at_interval plan lines some.0)) some.3)
