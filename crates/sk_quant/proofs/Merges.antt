-- Lemmas on the loop that puts rising items among others, from the greatest down.
use Rattle.std.proofs.Common.{◌≡◌, ℕ, zero, suc, ◌+◌, ◌-◌, ◌<◌, ◌≤◌, List, [], ◌∷◌, ◌++◌, length, get_or, take, drop, set, All, ⊎_elim, refl, sym, ap, subst, ◌∙◌, append_assoc, append-nil, arith, length-append, length-take, length-set, take-append-drop, take_at, take_all, get_or-take, take-take}
use Rattle.std.specs.List.Sorted.{IsNonDecreasing}
use Rattle.std.proofs.lemmas.Bool.{cases_lt}
use Rattle.std.proofs.lemmas.List.{take_more, drop-set, drop_all, take-set-le}
use Rattle.std.proofs.lemmas.List.Elements.{All-from_get_or, All-append}
use Rattle.std.proofs.lemmas.List.Sorted.{IsNonDecreasingBy-take}
use Rattle.sk_quant.specs.Order.{in_order}
use Rattle.sk_quant.proofs.Orders.{in_order_last, in_order_of_rising}

-- of the items the first `left` wait, of the others the first `right`; what both gave stands after them, in order
pub record IsMerging (others items now : List ℕ) (left right : ℕ) : Type 0 where
  pub items_wait : left ≤ length items
  pub others_wait : right ≤ length others
  pub len : length now ≡ length items + length others
  pub front : take left now ≡ take left items
  pub whole : in_order (others ++ items) ≡ in_order (take right others ++ take left items) ++ drop (left + right) now

pub merging_begins : (others items now : List ℕ) → now ≡ items ++ others → IsMerging others items now (length items) (length others)
merging_begins others items now is = record {
  items_wait = omega arith;
  others_wait = omega arith;
  len = ap (λ (l : List ℕ). length l) is ∙ length-append items others;
  front = ap (λ (l : List ℕ). take (length items) l) is ∙ take_at items others (length items) refl ∙ sym (take_all (length items) items (omega arith));
  whole = sym (ap (λ (l : List ℕ). in_order (take (length others) others ++ take (length items) items) ++ l) none
      ∙ append-nil (in_order (take (length others) others ++ take (length items) items))
      ∙ ap (λ (l : List ℕ). in_order (l ++ take (length items) items)) (take_all (length others) others (omega arith))
      ∙ ap (λ (l : List ℕ). in_order (others ++ l)) (take_all (length items) items (omega arith)));
}
  where
    none : drop (length items + length others) now ≡ []
    none = drop_all (length items + length others) now (omega (arith, ap (λ (l : List ℕ). length l) is, length-append items others))

-- of rising items none before a place is above what stands there
at_most : (xs : List ℕ) (i z : ℕ) → IsNonDecreasing xs → i < length xs → get_or xs i 0 ≤ z → All (λ y. y ≤ z) (take (i + 1) xs)
at_most xs i z up inside le =
    All-from_get_or (λ y. y ≤ z) (take (i + 1) xs) 0
    (λ k within. let near : k < i + 1 = omega (arith, length-take (i + 1) xs) in rw (get_or-take (i + 1) xs k 0 near) (omega (arith, up k i 0 (omega arith) inside)))

none_at_most : (xs : List ℕ) (z : ℕ) → All (λ y. y ≤ z) (take zero xs)
none_at_most xs z k d inside = absurd (omega arith)

-- the same of the first n
first_at_most : (xs : List ℕ) (n z : ℕ) → IsNonDecreasing xs → n ≤ length xs → (0 < n → get_or xs (n - 1) 0 ≤ z) → All (λ y. y ≤ z) (take n xs)
first_at_most xs zero z up within le = none_at_most xs z
first_at_most xs (suc n) z up within le =
    let same : suc n ≡ n + 1 = omega arith in
    let back : suc n - 1 ≡ n = omega arith in
    rw same (at_most xs n z up (omega arith) (rw back at (le (omega arith))))

-- what stands at the end of the wait goes after it, whichever list it is of
behind : (at z : ℕ) (now : List ℕ) → at < length now → drop at (set now at z) ≡ z ∷ drop (at + 1) now
behind at z now inside = drop-set now at z inside

-- what waits of the items still comes first
pub waits_in_front : (others items now : List ℕ) (left right i : ℕ) → i < left → IsMerging others items now left right → get_or now i 0 ≡ get_or items i 0
waits_in_front others items now left right i less so_far =
    sym (get_or-take left now i 0 less) ∙ ap (λ (l : List ℕ). get_or l i 0) so_far.front ∙ get_or-take left items i 0 less

-- the last that waits of the items is the greatest
pub merging_takes_an_item : (others items now : List ℕ) (left right rest at z : ℕ) → IsNonDecreasing others → IsNonDecreasing items
    → left ≡ rest + 1 → at ≡ rest + right → z ≡ get_or items rest 0 → 0 < right → get_or others (right - 1) 0 ≤ z
    → IsMerging others items now left right → IsMerging others items (set now at z) rest right
merging_takes_an_item others items now left right rest at z up_others up_items is_left is_at is_z some le so_far = record {
  items_wait = omega (arith, so_far.items_wait);
  others_wait = so_far.others_wait;
  len = length-set now at z ∙ so_far.len;
  front = take-set-le rest now at z (omega arith) ∙ shorter;
  whole = so_far.whole ∙ ap (λ (l : List ℕ). l ++ drop (left + right) now) last ∙ append_assoc (in_order waiting) (z ∷ []) (drop (left + right) now)
      ∙ ap (λ (l : List ℕ). in_order waiting ++ l) (ap (λ (n : ℕ). z ∷ drop n now) after ∙ sym (behind at z now within) ∙ ap (λ (n : ℕ). drop n (set now at z)) is_at);
}
  where
    waiting : List ℕ
    waiting = take right others ++ take rest items

    within : at < length now
    within = omega (arith, so_far.len, so_far.items_wait, so_far.others_wait)

    after : left + right ≡ at + 1
    after = omega arith

    shorter : take rest now ≡ take rest items
    shorter =
        sym (take-take rest left now (omega arith)) ∙ ap (λ (l : List ℕ). take rest l) so_far.front ∙ take-take rest left items (omega arith)

    one_more : take left items ≡ take rest items ++ z ∷ []
    one_more =
        ap (λ (n : ℕ). take n items) is_left ∙ take_more items rest 0 (omega (arith, so_far.items_wait))
        ∙ ap (λ (n : ℕ). take rest items ++ n ∷ []) (sym is_z)

    all : All (λ y. y ≤ z) waiting
    all =
        All-append (λ y. y ≤ z) (take right others) (take rest items) (first_at_most others right z up_others (so_far.others_wait) (λ _. le))
        (first_at_most items rest z up_items (omega (arith, so_far.items_wait)) (λ more. omega (arith, up_items (rest - 1) rest 0 (omega arith) (omega (arith, so_far.items_wait)))))

    last : in_order (take right others ++ take left items) ≡ in_order waiting ++ z ∷ []
    last =
        ap (λ (l : List ℕ). in_order (take right others ++ l)) one_more
        ∙ ap (λ (l : List ℕ). in_order l) (sym (append_assoc (take right others) (take rest items) (z ∷ [])))
        ∙ in_order_last waiting [] z all (none_at_most [] z)
        ∙ ap (λ (l : List ℕ). in_order l ++ z ∷ []) (append-nil waiting)

-- the last that waits of the others is
pub merging_takes_another : (others items now : List ℕ) (left right rest at z : ℕ) → IsNonDecreasing others → IsNonDecreasing items
    → right ≡ rest + 1 → at ≡ left + rest → z ≡ get_or others rest 0 → (0 < left → get_or items (left - 1) 0 ≤ z)
    → IsMerging others items now left right → IsMerging others items (set now at z) left rest
merging_takes_another others items now left right rest at z up_others up_items is_right is_at is_z le so_far = record {
  items_wait = so_far.items_wait;
  others_wait = omega (arith, so_far.others_wait);
  len = length-set now at z ∙ so_far.len;
  front = take-set-le left now at z (omega arith) ∙ so_far.front;
  whole = so_far.whole ∙ ap (λ (l : List ℕ). l ++ drop (left + right) now) last ∙ append_assoc (in_order waiting) (z ∷ []) (drop (left + right) now)
      ∙ ap (λ (l : List ℕ). in_order waiting ++ l) (ap (λ (n : ℕ). z ∷ drop n now) after ∙ sym (behind at z now within) ∙ ap (λ (n : ℕ). drop n (set now at z)) is_at);
}
  where
    waiting : List ℕ
    waiting = take rest others ++ take left items

    within : at < length now
    within = omega (arith, so_far.len, so_far.items_wait, so_far.others_wait)

    after : left + right ≡ at + 1
    after = omega arith

    one_more : take right others ≡ take rest others ++ z ∷ []
    one_more =
        ap (λ (n : ℕ). take n others) is_right ∙ take_more others rest 0 (omega (arith, so_far.others_wait))
        ∙ ap (λ (n : ℕ). take rest others ++ n ∷ []) (sym is_z)

    last : in_order (take right others ++ take left items) ≡ in_order waiting ++ z ∷ []
    last =
        ap (λ (l : List ℕ). in_order (l ++ take left items)) one_more
        ∙ ap (λ (l : List ℕ). in_order l) (append_assoc (take rest others) (z ∷ []) (take left items))
        ∙ in_order_last (take rest others) (take left items) z
        (first_at_most others rest z up_others (omega (arith, so_far.others_wait)) (λ more. omega (arith, up_others (rest - 1) rest 0 (omega arith) (omega (arith, so_far.others_wait)))))
        (first_at_most items left z up_items (so_far.items_wait) le)

-- the greater of the last that wait goes after what waits
pub merging_goes_on : (others items now : List ℕ) (left right item other : ℕ) (last : ℕ × ℕ) → IsNonDecreasing others → IsNonDecreasing items
    → 0 < left → 0 < right → item ≡ get_or items (left - 1) 0 → other ≡ get_or others (right - 1) 0
    → (other < item → last ≡ (item, 1)) → (item ≤ other → last ≡ (other, 0))
    → IsMerging others items now left right → IsMerging others items (set now (left + right - 1) last.0) (left - last.1) (right - (1 - last.1))
merging_goes_on others items now left right item other last up_others up_items some some' is_item is_other more less so_far =
    ⊎_elim by_item by_other (cases_lt other item)
  where
    by_item : other < item → IsMerging others items (set now (left + right - 1) last.0) (left - last.1) (right - (1 - last.1))
    by_item lt =
        let z : last.0 ≡ item = ap (λ (p : ℕ × ℕ). p.0) (more lt) in
        let one : last.1 ≡ 1 = ap (λ (p : ℕ × ℕ). p.1) (more lt) in
        let left_is : left - last.1 ≡ left - 1 = omega (arith, one) in
        let right_is : right - (1 - last.1) ≡ right = omega (arith, one) in
        rw left_is (rw right_is
        (merging_takes_an_item others items now left right (left - 1) (left + right - 1) last.0 up_others up_items
        (omega arith) (omega arith) (z ∙ is_item) some' (omega (arith, z, is_other, lt)) so_far))

    by_other : item ≤ other → IsMerging others items (set now (left + right - 1) last.0) (left - last.1) (right - (1 - last.1))
    by_other le =
        let z : last.0 ≡ other = ap (λ (p : ℕ × ℕ). p.0) (less le) in
        let none : last.1 ≡ 0 = ap (λ (p : ℕ × ℕ). p.1) (less le) in
        let left_is : left - last.1 ≡ left = omega (arith, none) in
        let right_is : right - (1 - last.1) ≡ right - 1 = omega (arith, none) in
        rw left_is (rw right_is
        (merging_takes_another others items now left right (right - 1) (left + right - 1) last.0 up_others up_items
        (omega arith) (omega arith) (z ∙ is_other) (λ _. omega (arith, z, is_item, le)) so_far))

-- none of the others waits
pub merging_ends : (others items now : List ℕ) (left : ℕ) → IsNonDecreasing items → IsMerging others items now left 0 → now ≡ in_order (others ++ items)
merging_ends others items now left up so_far =
    let same : left + 0 ≡ left = omega arith in
    sym (so_far.whole
    ∙ ap (λ (l : List ℕ). l ++ drop (left + 0) now) (in_order_of_rising (take left items) (IsNonDecreasingBy-take (λ x. x) left items up) ∙ sym so_far.front)
    ∙ ap (λ (n : ℕ). take left now ++ drop n now) same
    ∙ take-append-drop left now)

-- none of the items waits: what waits of the others comes first
pub merging_ends_early : (others items now : List ℕ) (right : ℕ) → IsNonDecreasing others → IsMerging others items now 0 right → take right others ++ drop right now ≡ in_order (others ++ items)
merging_ends_early others items now right up so_far =
    let same : 0 + right ≡ right = omega arith in
    sym (so_far.whole
    ∙ ap (λ (l : List ℕ). in_order l ++ drop (0 + right) now) (append-nil (take right others))
    ∙ ap (λ (l : List ℕ). l ++ drop (0 + right) now) (in_order_of_rising (take right others) (IsNonDecreasingBy-take (λ x. x) right others up))
    ∙ ap (λ (n : ℕ). take right others ++ drop n now) same)

-- either way
pub merging_is_done : (others items now : List ℕ) (left right : ℕ) → IsNonDecreasing others → IsNonDecreasing items → (0 < left → right ≡ 0)
    → IsMerging others items now left right → take right others ++ drop right now ≡ in_order (others ++ items)
merging_is_done others items now left right up_others up_items last so_far =
    ⊎_elim by_items by_others (cases_lt 0 left)
  where
    by_items : 0 < left → take right others ++ drop right now ≡ in_order (others ++ items)
    by_items some =
        let none = last some in
        ap (λ (n : ℕ). take n others ++ drop n now) none ∙ merging_ends others items now left up_items (subst (λ (n : ℕ). IsMerging others items now left n) none so_far)

    by_others : left ≤ 0 → take right others ++ drop right now ≡ in_order (others ++ items)
    by_others le =
        let none : left ≡ 0 = omega (arith, le) in merging_ends_early others items now right up_others (subst (λ (n : ℕ). IsMerging others items now n right) none so_far)
