-- Lemmas on what a list of items leaves: how much of it lies where, and how far its ranks are off.
use Rattle.std.proofs.Common.{◌≡◌, ℕ, zero, suc, ◌+◌, ◌*◌, ◌/◌, ◌%◌, ◌^◌, ◌<◌, ◌≤◌, ltb, List, [], ◌∷◌, ◌++◌, length, drop, replicate, fold, All, ⊎_elim, refl, sym, ap, ◌∙◌, subst, append_assoc, append-nil, arith, length-append, mul-zero, mul-one, pow-suc, mod-lt, div-add-mod', div-le_self}
use Rattle.std.proofs.Math.Nat.{zero-div, zero-mod}
use Rattle.std.specs.Int.{abs_diff}
use Rattle.std.specs.List.Sorted.{IsNonDecreasing}
use Rattle.std.proofs.lemmas.Bool.{cases_lt, lt-ltb, le-ltb, cond-true, cond-false}
use Rattle.std.proofs.lemmas.List.{length-replicate}
use Rattle.std.proofs.lemmas.List.Elements.{All-nil, All-cons}
use Rattle.std.proofs.lemmas.List.Sorted.{IsNonDecreasingBy-short}
use Rattle.std.proofs.lemmas.List.Sums.{fold_push, count_by-le-length}
use Rattle.std.proofs.lemmas.Nat.{div-mul-add, mod-mul-add}
use Rattle.sk_quant.specs.Held.{Held, nothing_held, halved, carried, held_with, held_with_all, held_after, layers_of}
use Rattle.sk_quant.specs.Limits.{most_items, level_count}
use Rattle.sk_quant.specs.Order.{in_order}
use Rattle.sk_quant.specs.Quantiles.{AreFilled, IsFilled}
use Rattle.sk_quant.specs.Ranks.{rank_of, weighted_rank, weight_of, rank_error}
use Rattle.sk_quant.proofs.Orders.{rank-append, rank-in_order, in_order_rises, length-in_order}
use Rattle.sk_quant.proofs.Halves.{length-halved, halved_rises, halves_are_near}
use Rattle.sk_quant.proofs.Errors.{counts, counts-suc, compactions-is, terms, terms-suc, error_terms-is, error_terms_all}

-- ---- weights

pub weighted_rank-cons : (t : ℕ) (layer : List ℕ) (layers : List (List ℕ)) → weighted_rank t (layer ∷ layers) ≡ rank_of t layer + 2 * weighted_rank t layers
unfolding weighted_rank
weighted_rank-cons t layer layers = refl

pub weight_of-cons : (layer : List ℕ) (layers : List (List ℕ)) → weight_of (layer ∷ layers) ≡ length layer + 2 * weight_of layers
unfolding weight_of
weight_of-cons layer layers = refl

pub weighted_rank-le : (t : ℕ) (layers : List (List ℕ)) → weighted_rank t layers ≤ weight_of layers
unfolding weighted_rank weight_of
weighted_rank-le t [] = omega arith
weighted_rank-le t (layer ∷ layers) = omega (arith, weighted_rank-le t layers, count_by-le-length (λ y. ltb y t) layer)

pub weight_of-drop : (n : ℕ) (layers : List (List ℕ)) → weight_of (drop n layers) ≤ weight_of layers
unfolding weight_of
weight_of-drop zero layers = omega arith
weight_of-drop (suc n) [] = omega arith
weight_of-drop (suc n) (layer ∷ layers) = omega (arith, weight_of-drop n layers)

weighted_of_none : (t n : ℕ) → weighted_rank t (replicate n []) ≡ 0
unfolding weighted_rank
weighted_of_none t zero = refl
weighted_of_none t (suc n) = omega (arith, weighted_of_none t n)

-- ---- how much lies where

parity : (m : ℕ) {P : Type 0} → (m % 2 ≡ 0 → P) → (m % 2 ≡ 1 → P) → P
parity m even odd = ⊎_elim (λ less. even (omega arith)) (λ le. odd (omega arith)) (cases_lt (m % 2) 1)

pub levels_are_short : (k often : ℕ) (levels : List (List ℕ)) → AreFilled k often levels → All (λ level. (length level ≤ k) × IsNonDecreasing level) levels
levels_are_short k often [] filled = All-nil (λ level. (length level ≤ k) × IsNonDecreasing level)
levels_are_short k often (level ∷ levels) filled =
    All-cons (λ level. (length level ≤ k) × IsNonDecreasing level) level levels (short, filled.1) (levels_are_short k (often / 2) levels filled.2)
  where
    short : length level ≤ k
    short = parity often
        (λ even. omega (arith, filled.0, ap (λ (n : ℕ). k * n) even, mul-zero k))
        (λ odd. omega (arith, filled.0, ap (λ (n : ℕ). k * n) odd, mul-one k))

weight_of_filled : (k often : ℕ) (levels : List (List ℕ)) → AreFilled k often levels → weight_of levels ≡ k * often
unfolding weight_of
weight_of_filled k often [] filled = omega (arith, ap (λ (n : ℕ). k * n) filled, mul-zero k)
weight_of_filled k often (level ∷ levels) filled =
    let half = weight_of_filled k (often / 2) levels filled.2 in
    let parts : often ≡ often % 2 + 2 * (often / 2) = omega arith in
    omega (arith, half, filled.0, ap (λ (n : ℕ). k * n) parts)

none_filled : (k n : ℕ) → AreFilled k 0 (replicate n [])
none_filled k zero = refl
none_filled k (suc n) = (sym (mul-zero k), IsNonDecreasingBy-short (λ x. x) [] (omega arith), none_filled k n)

-- ---- one compaction of the base

-- from a to b by no more than one compaction more of the base allows
abbrev IsMoved : ℕ → ℕ → ℕ → ℕ → Type 0
IsMoved often levels a b = (a + terms often levels ≤ b + terms (often + 1) levels) × (b + terms often levels ≤ a + terms (often + 1) levels)

pub record IsCarried (coins : ℕ → ℕ) (place k often : ℕ) (items : List ℕ) (levels : List (List ℕ)) : Type 0 where
  pub filled : AreFilled k (often + 1) (carried coins place items levels).0
  pub number : length (carried coins place items levels).0 ≡ length levels
  pub next : (carried coins place items levels).1 + counts often (length levels) ≡ place + counts (often + 1) (length levels)
  pub moved : (t : ℕ) → IsMoved often (length levels) (rank_of t items + 2 * weighted_rank t levels) (2 * weighted_rank t (carried coins place items levels).0)

joined_length : (level half : List ℕ) (k : ℕ) → length level ≡ k → length half ≡ k → length (in_order (level ++ half)) ≡ 2 * k
joined_length level half k is is' =
    omega (arith, length-in_order (level ++ half), length-append level half)

joined_rank : (t : ℕ) (level half : List ℕ) → rank_of t (in_order (level ++ half)) ≡ rank_of t level + rank_of t half
joined_rank t level half = rank-in_order t (level ++ half) ∙ rank-append t level half

into_empty : (coins : ℕ → ℕ) (place k often : ℕ) (items : List ℕ) (levels : List (List ℕ)) → length items ≡ 2 * k → IsNonDecreasing items → AreFilled k (often / 2) levels → often % 2 ≡ 0
    → IsCarried coins place k often items ([] ∷ levels)
unfolding carried
into_empty coins place k often items levels is up below even = record {
  filled = (omega (arith, length-halved (coins place) items, ap (λ (n : ℕ). k * n) odd, mul-one k), halved_rises (coins place) items up, subst (λ (n : ℕ). AreFilled k n levels) same below);
  number = refl;
  next = one_coin;
  moved = moved;
}
  where
    odd : (often + 1) % 2 ≡ 1
    odd = omega arith

    same : often / 2 ≡ (often + 1) / 2
    same = omega arith

    one_coin : place + 1 + counts often (suc (length levels)) ≡ place + counts (often + 1) (suc (length levels))
    one_coin = omega (arith, counts-suc often (length levels), counts-suc (often + 1) (length levels), ap (λ (n : ℕ). counts n (length levels)) same)

    moved : (t : ℕ) → IsMoved often (suc (length levels)) (rank_of t items + 2 * weighted_rank t ([] ∷ levels)) (2 * weighted_rank t (halved (coins place) items ∷ levels))
    moved t =
        let half = halves_are_near t (coins place) items up in
        let before = weighted_rank-cons t [] levels in
        let after = weighted_rank-cons t (halved (coins place) items) levels in
        let less = terms-suc often (length levels) in
        let more = terms-suc (often + 1) (length levels) in
        let rest = ap (λ (n : ℕ). terms n (length levels)) same in
        (omega arith, omega arith)

through_full : (coins : ℕ → ℕ) (place k often x : ℕ) (items level : List ℕ) (levels : List (List ℕ)) → IsNonDecreasing items → often % 2 ≡ 1
    → IsCarried coins (place + 1) k (often / 2) (in_order ((x ∷ level) ++ halved (coins place) items)) levels → IsCarried coins place k often items ((x ∷ level) ∷ levels)
unfolding carried
through_full coins place k often x items level levels up odd above = record {
  filled = (sym (ap (λ (n : ℕ). k * n) even ∙ mul-zero k), IsNonDecreasingBy-short (λ n. n) [] (omega arith), subst (λ (n : ℕ). AreFilled k n higher.0) next above.filled);
  number = ap (λ (n : ℕ). suc n) above.number;
  next = more_coins;
  moved = moved;
}
  where
    half : List ℕ
    half = halved (coins place) items

    higher : List (List ℕ) × ℕ
    higher = carried coins (place + 1) (in_order ((x ∷ level) ++ half)) levels

    even : (often + 1) % 2 ≡ 0
    even = omega arith

    next : often / 2 + 1 ≡ (often + 1) / 2
    next = omega arith

    more_coins : higher.1 + counts often (suc (length levels)) ≡ place + counts (often + 1) (suc (length levels))
    more_coins = omega (arith, above.next, counts-suc often (length levels), counts-suc (often + 1) (length levels), ap (λ (n : ℕ). counts n (length levels)) next)

    moved : (t : ℕ) → IsMoved often (suc (length levels)) (rank_of t items + 2 * weighted_rank t ((x ∷ level) ∷ levels)) (2 * weighted_rank t ([] ∷ higher.0))
    moved t =
        let near = halves_are_near t (coins place) items up in
        let there = above.moved t in
        let ranks = joined_rank t (x ∷ level) half in
        let before = weighted_rank-cons t (x ∷ level) levels in
        let after = weighted_rank-cons t [] higher.0 in
        let less = terms-suc often (length levels) in
        let more = terms-suc (often + 1) (length levels) in
        let rest = ap (λ (n : ℕ). terms n (length levels)) next in
        (omega arith, omega arith)

carried_all : (coins : ℕ → ℕ) (place k often : ℕ) (items : List ℕ) (levels : List (List ℕ)) → 1 ≤ k → length items ≡ 2 * k → IsNonDecreasing items → AreFilled k often levels → often + 1 < 2 ^ length levels
    → IsCarried coins place k often items levels
carried_all coins place k often items [] some is up filled room = absurd (omega arith)
carried_all coins place k often items ([] ∷ levels) some is up filled room =
    into_empty coins place k often items levels is up filled.2
    (parity often (λ even. even) (λ odd. absurd (omega (arith, filled.0, ap (λ (n : ℕ). k * n) odd, mul-one k))))
carried_all coins place k often items ((x ∷ level) ∷ levels) some is up filled room =
    parity often (λ even. absurd (omega (arith, filled.0, ap (λ (n : ℕ). k * n) even, mul-zero k)))
    (λ odd. through_full coins place k often x items level levels up odd
    (carried_all coins (place + 1) k (often / 2) (in_order ((x ∷ level) ++ halved (coins place) items)) levels some
    (joined_length (x ∷ level) (halved (coins place) items) k (filled.0 ∙ ap (λ (n : ℕ). k * n) odd ∙ mul-one k) (omega (arith, length-halved (coins place) items)))
    (in_order_rises ((x ∷ level) ++ halved (coins place) items)) filled.2 (omega (arith, pow-suc 2 (length levels), odd))))

-- ---- one more item

next_within : (n d : ℕ) → n % d + 1 < d → ((n + 1) % d ≡ n % d + 1) × ((n + 1) / d ≡ n / d)
next_within n d less =
    let parts : n + 1 ≡ n / d * d + (n % d + 1) = omega (arith, div-add-mod' n d) in
    (ap (λ (m : ℕ). m % d) parts ∙ mod-mul-add (n / d) d (n % d + 1) less, ap (λ (m : ℕ). m / d) parts ∙ div-mul-add (n / d) d (n % d + 1) less)

next_full : (n d : ℕ) → 0 < d → n % d + 1 ≡ d → ((n + 1) % d ≡ 0) × ((n + 1) / d ≡ n / d + 1)
next_full n d some is =
    let parts : n + 1 ≡ (n / d + 1) * d + 0 = omega (arith, div-add-mod' n d) in
    (ap (λ (m : ℕ). m % d) parts ∙ mod-mul-add (n / d + 1) d 0 some, ap (λ (m : ℕ). m / d) parts ∙ div-mul-add (n / d + 1) d 0 some)

-- the base has room for one more
abbrev pub with_room : Held → ℕ → Held
with_room held x = record held { base = held.base ++ x ∷ [] }

-- the base is full with one more, and goes up
abbrev pub with_compaction : (ℕ → ℕ) → Held → ℕ → Held
with_compaction coins held x =
    let up = carried coins held.place (in_order (held.base ++ x ∷ [])) held.levels in record { base = []; levels = up.0; place = up.1 }

pub held_with_room : (coins : ℕ → ℕ) (k x : ℕ) (held : Held) → length held.base + 1 < 2 * k → held_with coins k held x ≡ with_room held x
unfolding held_with
held_with_room coins k x held room = cond-true (ltb (length (held.base ++ x ∷ [])) (2 * k)) (with_room held x) (with_compaction coins held x) (lt-ltb (length (held.base ++ x ∷ [])) (2 * k) (omega (arith, length-append held.base (x ∷ []))))

pub held_with_compaction : (coins : ℕ → ℕ) (k x : ℕ) (held : Held) → 2 * k ≤ length held.base + 1 → held_with coins k held x ≡ with_compaction coins held x
unfolding held_with
held_with_compaction coins k x held full = cond-false (ltb (length (held.base ++ x ∷ [])) (2 * k)) (with_room held x) (with_compaction coins held x) (le-ltb (length (held.base ++ x ∷ [])) (2 * k) (omega (arith, length-append held.base (x ∷ []))))

filled_with_room : (k n x : ℕ) (held : Held) → length held.base + 1 < 2 * k → IsFilled k n held → IsFilled k (n + 1) (with_room held x)
filled_with_room k n x held room filled =
    let next = next_within n (2 * k) (omega (arith, filled.base)) in
    record {
      base = omega (arith, length-append held.base (x ∷ []), next.0, filled.base);
      levels = subst (λ (m : ℕ). AreFilled k m held.levels) (sym next.1) filled.levels;
      number = filled.number;
      place = filled.place ∙ compactions-is n k level_count ∙ ap (λ (m : ℕ). counts m level_count) (sym next.1) ∙ sym (compactions-is (n + 1) k level_count);
    }

-- the number of items, once the base is full
full_next : (k n : ℕ) (held : Held) → 1 ≤ k → 2 * k ≤ length held.base + 1 → IsFilled k n held → ((n + 1) % (2 * k) ≡ 0) × ((n + 1) / (2 * k) ≡ n / (2 * k) + 1)
full_next k n held some full filled =
    next_full n (2 * k) (omega arith) (omega (arith, filled.base, mod-lt n {m = 2 * k} (omega arith)))

compaction_carries : (coins : ℕ → ℕ) (k n x : ℕ) (held : Held) → 1 ≤ k → n < most_items → 2 * k ≤ length held.base + 1 → IsFilled k n held
    → IsCarried coins held.place k (n / (2 * k)) (in_order (held.base ++ x ∷ [])) held.levels
compaction_carries coins k n x held some few full filled =
    carried_all coins held.place k (n / (2 * k)) (in_order (held.base ++ x ∷ [])) held.levels some
    (omega (arith, length-in_order (held.base ++ x ∷ []), length-append held.base (x ∷ []), filled.base, mod-lt n {m = 2 * k} (omega arith)))
    (in_order_rises (held.base ++ x ∷ [])) filled.levels (omega (arith, div-le_self n (2 * k), ap (λ (l : ℕ). 2 ^ l) filled.number))

filled_with_compaction : (coins : ℕ → ℕ) (k n x : ℕ) (held : Held) → 1 ≤ k → n < most_items → 2 * k ≤ length held.base + 1 → IsFilled k n held → IsFilled k (n + 1) (with_compaction coins held x)
filled_with_compaction coins k n x held some few full filled =
    let next = full_next k n held some full filled in
    let moves = compaction_carries coins k n x held some few full filled in
    record {
      base = sym next.0;
      levels = subst (λ (m : ℕ). AreFilled k m (with_compaction coins held x).levels) (sym next.1) moves.filled;
      number = moves.number ∙ filled.number;
      place = omega (
        arith,
        filled.place,
        moves.next,
        compactions-is n k level_count,
        compactions-is (n + 1) k level_count,
        ap (λ (m : ℕ). counts m level_count) next.1,
        ap (λ (l : ℕ). counts (n / (2 * k)) l) filled.number,
        ap (λ (l : ℕ). counts (n / (2 * k) + 1) l) filled.number,
      );
    }

pub one_more_filled : (coins : ℕ → ℕ) (k n x : ℕ) (held : Held) → 1 ≤ k → n < most_items → IsFilled k n held → IsFilled k (n + 1) (held_with coins k held x)
one_more_filled coins k n x held some few filled = ⊎_elim
    (λ room. subst (λ (h : Held). IsFilled k (n + 1) h) (sym (held_with_room coins k x held room)) (filled_with_room k n x held room filled))
    (λ full. subst (λ (h : Held). IsFilled k (n + 1) h) (sym (held_with_compaction coins k x held full)) (filled_with_compaction coins k n x held some few full filled))
    (cases_lt (length held.base + 1) (2 * k))

-- the rank of t in what is held of n items is no further off than their error allows
abbrev pub IsNear : ℕ → ℕ → ℕ → List ℕ → Held → Type 0
IsNear k n t done held =
    (weighted_rank t (layers_of held) ≤ rank_of t done + terms (n / (2 * k)) level_count) × (rank_of t done ≤ weighted_rank t (layers_of held) + terms (n / (2 * k)) level_count)

near_with_room : (k n t x : ℕ) (done : List ℕ) (held : Held) → length held.base + 1 < 2 * k → IsFilled k n held → IsNear k n t done held → IsNear k (n + 1) t (done ++ x ∷ []) (with_room held x)
near_with_room k n t x done held room filled was =
    let next = next_within n (2 * k) (omega (arith, filled.base)) in
    let before = weighted_rank-cons t held.base held.levels in
    let after = weighted_rank-cons t (held.base ++ x ∷ []) held.levels in
    let one = rank-append t held.base (x ∷ []) in
    let all = rank-append t done (x ∷ []) in
    let same = ap (λ (m : ℕ). terms m level_count) next.1 in
    (omega arith, omega arith)

near_with_compaction : (coins : ℕ → ℕ) (k n t x : ℕ) (done : List ℕ) (held : Held) → 1 ≤ k → n < most_items → 2 * k ≤ length held.base + 1 → IsFilled k n held → IsNear k n t done held
    → IsNear k (n + 1) t (done ++ x ∷ []) (with_compaction coins held x)
near_with_compaction coins k n t x done held some few full filled was =
    let next = full_next k n held some full filled in
    let moves = compaction_carries coins k n x held some few full filled in
    let there = moves.moved t in
    let before = weighted_rank-cons t held.base held.levels in
    let after = weighted_rank-cons t [] (with_compaction coins held x).levels in
    let ranks = rank-in_order t (held.base ++ x ∷ []) in
    let one = rank-append t held.base (x ∷ []) in
    let all = rank-append t done (x ∷ []) in
    let more = ap (λ (m : ℕ). terms m level_count) next.1 in
    let less = ap (λ (l : ℕ). terms (n / (2 * k)) l) filled.number in
    let more' = ap (λ (l : ℕ). terms (n / (2 * k) + 1) l) filled.number in
    (omega arith, omega arith)

one_more_near : (coins : ℕ → ℕ) (k n t x : ℕ) (done : List ℕ) (held : Held) → 1 ≤ k → n < most_items → IsFilled k n held → IsNear k n t done held → IsNear k (n + 1) t (done ++ x ∷ []) (held_with coins k held x)
one_more_near coins k n t x done held some few filled was = ⊎_elim
    (λ room. subst (λ (h : Held). IsNear k (n + 1) t (done ++ x ∷ []) h) (sym (held_with_room coins k x held room)) (near_with_room k n t x done held room filled was))
    (λ full. subst (λ (h : Held). IsNear k (n + 1) t (done ++ x ∷ []) h) (sym (held_with_compaction coins k x held full)) (near_with_compaction coins k n t x done held some few full filled was))
    (cases_lt (length held.base + 1) (2 * k))

-- ---- all items

-- what is held after a list of n items
pub record IsAfter (k n : ℕ) (done : List ℕ) (held : Held) : Type 0 where
  pub filled : IsFilled k n held
  pub near : (t : ℕ) → IsNear k n t done held

after_one_more : (coins : ℕ → ℕ) (k n x : ℕ) (done : List ℕ) (held : Held) → 1 ≤ k → n < most_items → IsAfter k n done held → IsAfter k (n + 1) (done ++ x ∷ []) (held_with coins k held x)
after_one_more coins k n x done held some few so_far = record {
  filled = one_more_filled coins k n x held some few so_far.filled;
  near = λ t. one_more_near coins k n t x done held some few so_far.filled (so_far.near t);
}

counts_none : (l : ℕ) → counts 0 l ≡ 0
unfolding counts
counts_none zero = refl
counts_none (suc l) = omega (arith, counts_none l, zero-div (2 ^ l))

pub after_none : (k : ℕ) → IsAfter k 0 [] nothing_held
after_none k = record {
  filled = record {
    base = sym (zero-mod (2 * k));
    levels = subst (λ (m : ℕ). AreFilled k m nothing_held.levels) (sym (zero-div (2 * k))) (none_filled k level_count);
    number = length-replicate {A = List ℕ} level_count [];
    place = sym (compactions-is 0 k level_count ∙ ap (λ (m : ℕ). counts m level_count) (zero-div (2 * k)) ∙ counts_none level_count);
  };
  near = λ t. let none = weighted_rank-cons t [] nothing_held.levels in let rest = weighted_of_none t level_count in (omega arith, omega arith);
}

after_more : (coins : ℕ → ℕ) (k n : ℕ) (done more : List ℕ) (held : Held) → 1 ≤ k → n + length more ≤ most_items → IsAfter k n done held
    → IsAfter k (n + length more) (done ++ more) (fold (λ h x. held_with coins k h x) held more)
after_more coins k n done [] held some few so_far =
    let same : n ≡ n + 0 = omega arith in
    subst (λ (m : ℕ). IsAfter k m (done ++ []) held) same (subst (λ (l : List ℕ). IsAfter k n l held) (sym (append-nil done)) so_far)
after_more coins k n done (x ∷ more) held some few so_far =
    let same : n + 1 + length more ≡ n + suc (length more) = omega arith in
    let all = fold (λ h y. held_with coins k h y) (held_with coins k held x) more in
    subst (λ (m : ℕ). IsAfter k m (done ++ x ∷ more) all) same
    (subst (λ (l : List ℕ). IsAfter k (n + 1 + length more) l all) (append_assoc done (x ∷ []) more)
    (after_more coins k (n + 1) (done ++ x ∷ []) more (held_with coins k held x) some (omega arith) (after_one_more coins k n x done held some (omega arith) so_far)))

pub after_all : (coins : ℕ → ℕ) (k : ℕ) (items : List ℕ) → 1 ≤ k → length items ≤ most_items → IsAfter k (length items) items (held_after coins k items)
unfolding held_after
after_all coins k items some few =
    let same : 0 + length items ≡ length items = omega arith in
    subst (λ (m : ℕ). IsAfter k m items (held_after coins k items)) same (after_more coins k 0 [] items nothing_held some (omega arith) (after_none k))

-- the rank in the sketch is off by at most the error
pub ranks_are_near : (coins : ℕ → ℕ) (k x : ℕ) (items : List ℕ) → 1 ≤ k → length items ≤ most_items
    → abs_diff (weighted_rank x (layers_of (held_after coins k items))) (rank_of x items) ≤ rank_error (length items) k
ranks_are_near coins k x items some few =
    let near = (after_all coins k items some few).near x in
    let error = error_terms-is (length items) k level_count in
    let whole = error_terms_all (length items) k level_count (omega arith) in
    omega arith

-- what is held weighs as much as the items
pub weight_of_layers : (k n : ℕ) (held : Held) → IsFilled k n held → weight_of (layers_of held) ≡ n
weight_of_layers k n held filled =
    omega (arith, weight_of-cons held.base held.levels, weight_of_filled k (n / (2 * k)) held.levels filled.levels, filled.base, div-add-mod' n (2 * k))

pub weights_add_up : (coins : ℕ → ℕ) (k : ℕ) (items : List ℕ) → 1 ≤ k → length items ≤ most_items → weight_of (layers_of (held_after coins k items)) ≡ length items
weights_add_up coins k items some few = weight_of_layers k (length items) (held_after coins k items) ((after_all coins k items some few).filled)

pub held_after_push : (coins : ℕ → ℕ) (k x : ℕ) (items : List ℕ) → held_after coins k (items ++ x ∷ []) ≡ held_with coins k (held_after coins k items) x
unfolding held_after
held_after_push coins k x items = fold_push (λ h y. held_with coins k h y) nothing_held items x

-- ---- items that at most fill the base

-- the base has room for all of them
pub all_with_room : (coins : ℕ → ℕ) (k : ℕ) (held : Held) (items : List ℕ) → length held.base + length items < 2 * k → held_with_all coins k held items ≡ record held { base = held.base ++ items }
all_with_room coins k held [] room = ap (λ (l : List ℕ). record held { base = l }) (sym (append-nil held.base))
all_with_room coins k held (x ∷ items) room =
    ap (λ (h : Held). held_with_all coins k h items) (held_with_room coins k x held (omega arith))
    ∙ all_with_room coins k (with_room held x) items (omega (arith, length-append held.base (x ∷ [])))
    ∙ ap (λ (l : List ℕ). record held { base = l }) (append_assoc held.base (x ∷ []) items)

-- a base of these items goes up
abbrev pub gone_up : (ℕ → ℕ) → Held → List ℕ → Held
gone_up coins held base =
    let up = carried coins held.place (in_order base) held.levels in record { base = []; levels = up.0; place = up.1 }

-- they fill the base, which goes up
pub all_with_compaction : (coins : ℕ → ℕ) (k : ℕ) (held : Held) (items : List ℕ) → 1 ≤ length items → length held.base + length items ≡ 2 * k → held_with_all coins k held items ≡ gone_up coins held (held.base ++ items)
all_with_compaction coins k held [] some full = absurd (omega (arith, some))
all_with_compaction coins k held (x ∷ []) some full = held_with_compaction coins k x held (omega (arith, full))
all_with_compaction coins k held (x ∷ y ∷ items) some full =
    ap (λ (h : Held). held_with_all coins k h (y ∷ items)) (held_with_room coins k x held (omega (arith, full)))
    ∙ all_with_compaction coins k (with_room held x) (y ∷ items) (omega arith) (omega (arith, full, length-append held.base (x ∷ [])))
    ∙ ap (λ (l : List ℕ). gone_up coins held l) (append_assoc held.base (x ∷ []) (y ∷ items))
