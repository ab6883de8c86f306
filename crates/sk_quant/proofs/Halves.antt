-- Lemmas on the half of the items that a coin takes, and on the loop that takes it.
use Rattle.std.proofs.Common.{◌≡◌, ℕ, zero, suc, ◌+◌, ◌*◌, ◌/◌, ◌<◌, ◌≤◌, true, false, cond, eqb, List, [], ◌∷◌, ◌++◌, length, get_or, take, drop, set, ⊎_elim, refl, sym, ap, ◌∙◌, arith, get_or-drop, take_all, drop-drop, length-set, drop-set-lt}
use Rattle.std.specs.List.Sorted.{IsNonDecreasing}
use Rattle.std.specs.Int.{abs_diff}
use Rattle.std.proofs.lemmas.Bool.{cases_lt}
use Rattle.std.proofs.lemmas.List.{take_more, take_more_set}
use Rattle.sk_quant.specs.Held.{halved}
use Rattle.sk_quant.specs.Ranks.{rank_of}
use Rattle.sk_quant.proofs.Orders.{one_below, one_below-lt, one_below-le, rank-cons, none_below, AscendsFrom, AscendsFrom-lower, AscendsFrom-non_decreasing, non_decreasing_from_AscendsFrom}

pub length-halved : (coin : ℕ) (items : List ℕ) → length (halved coin items) ≡ length items / 2
unfolding halved
length-halved coin [] = refl
length-halved coin (x ∷ []) = refl
length-halved coin (x ∷ y ∷ items) = omega (arith, length-halved coin items)

-- what a coin takes of the items stands at twice the place
pub get_or-halved : (coin : ℕ) (items : List ℕ) (i d : ℕ) → coin < 2 → i < length items / 2 → get_or (halved coin items) i d ≡ get_or items (2 * i + coin) d
unfolding halved
get_or-halved coin [] i d side inside = absurd (omega arith)
get_or-halved coin (x ∷ []) i d side inside = absurd (omega arith)
get_or-halved zero (x ∷ y ∷ items) zero d side inside = refl
get_or-halved (suc zero) (x ∷ y ∷ items) zero d side inside = refl
get_or-halved (suc (suc coin)) (x ∷ y ∷ items) zero d side inside = absurd (omega arith)
get_or-halved coin (x ∷ y ∷ items) (suc i) d side inside =
    let at : suc (suc (2 * i + coin)) ≡ 2 * suc i + coin = omega arith in
    get_or-halved coin items i d side (omega arith) ∙ ap (λ (n : ℕ). get_or (x ∷ y ∷ items) n d) at

AscendsFrom-halved : (b coin : ℕ) (items : List ℕ) → AscendsFrom b items → AscendsFrom b (halved coin items)
unfolding halved
AscendsFrom-halved b coin [] up = tt
AscendsFrom-halved b coin (x ∷ []) up = tt
AscendsFrom-halved b coin (x ∷ y ∷ items) up =
    elim (eqb coin 0) as (λ t. AscendsFrom b (cond t x y ∷ halved coin items)) [
      | true ↦ (up.0, AscendsFrom-halved x coin items (AscendsFrom-lower x y items up.1.0 up.1.1))
      | false ↦ (omega (arith, up.0, up.1.0), AscendsFrom-halved y coin items up.1.1)
    ]

pub halved_rises : (coin : ℕ) (items : List ℕ) → IsNonDecreasing items → IsNonDecreasing (halved coin items)
halved_rises coin items up = non_decreasing_from_AscendsFrom 0 (halved coin items) (AscendsFrom-halved 0 coin items (AscendsFrom-non_decreasing items up))

-- ---- the rank moves by at most one

-- two numbers are at most one apart
abbrev IsOneOff : ℕ → ℕ → Type 0
IsOneOff a b = (a ≤ b + 1) × (b ≤ a + 1)

one_below-most : (t x : ℕ) → one_below t x ≤ 1
one_below-most t x = ⊎_elim (λ less. omega (arith, one_below-lt t x less)) (λ le. omega (arith, one_below-le t x le)) (cases_lt x t)

taken_between : (coin x y : ℕ) → x ≤ y → (x ≤ cond (eqb coin 0) x y) × (cond (eqb coin 0) x y ≤ y)
taken_between coin x y le = elim (eqb coin 0) as (λ b. (x ≤ cond b x y) × (cond b x y ≤ y)) [ true ↦ (omega arith, le) | false ↦ (le, omega arith) ]

-- one more pair before what rises from its second
near_pair : (t x y taken : ℕ) (half items : List ℕ) → x ≤ taken → taken ≤ y → AscendsFrom y items → AscendsFrom y half → IsOneOff (2 * rank_of t half) (rank_of t items) → IsOneOff (2 * rank_of t (taken ∷ half)) (rank_of t (x ∷ y ∷ items))
near_pair t x y taken half items low high up up' near =
    let of_half : rank_of t (taken ∷ half) ≡ one_below t taken + rank_of t half = rank-cons t taken half in
    let of_items : rank_of t (x ∷ y ∷ items) ≡ one_below t x + (one_below t y + rank_of t items) = rank-cons t x (y ∷ items) ∙ ap (λ (n : ℕ). one_below t x + n) (rank-cons t y items) in
    let most = one_below-most t taken in
    ⊎_elim
    (λ less. let a = one_below-lt t taken (omega arith) in let b = one_below-lt t x (omega arith) in let c = one_below-lt t y less in (omega arith, omega arith))
    (λ le. let h = none_below t y half le up' in let i = none_below t y items le up in let c = one_below-le t y le in ⊎_elim
    (λ less. let b = one_below-lt t x less in (omega arith, omega arith))
    (λ le'. let b = one_below-le t x le' in let a = one_below-le t taken (omega arith) in (omega arith, omega arith)) (cases_lt x t)) (cases_lt y t)

near_halves : (t b coin : ℕ) (items : List ℕ) → AscendsFrom b items → IsOneOff (2 * rank_of t (halved coin items)) (rank_of t items)
unfolding halved
near_halves t b coin [] up = (omega arith, omega arith)
near_halves t b coin (x ∷ []) up = (omega (arith, rank-cons t x [], one_below-most t x), omega (arith, rank-cons t x [], one_below-most t x))
near_halves t b coin (x ∷ y ∷ items) up =
    let between = taken_between coin x y up.1.0 in
    near_pair t x y (cond (eqb coin 0) x y) (halved coin items) items between.0 between.1 up.1.1 (AscendsFrom-halved y coin items up.1.1) (near_halves t y coin items up.1.1)

-- a compaction of weight 1 moves the weighted number below t by at most 1
pub halves_are_near : (t coin : ℕ) (items : List ℕ) → IsNonDecreasing items → abs_diff (2 * rank_of t (halved coin items)) (rank_of t items) ≤ 1
halves_are_near t coin items up =
    let near = near_halves t 0 coin items (AscendsFrom-non_decreasing items up) in omega (arith, near.0, near.1)

-- ---- the loop

-- after i pairs the prefix has what the coin takes of them, and the rest is as it was
pub record IsHalving (coin : ℕ) (items now : List ℕ) (i : ℕ) : Type 0 where
  pub len : length now ≡ length items
  pub front : take i now ≡ take i (halved coin items)
  pub rest : drop i now ≡ drop i items

pub halving_begins : (coin : ℕ) (items : List ℕ) → IsHalving coin items items 0
halving_begins coin items = record { len = refl; front = refl; rest = refl }

pub halving_goes_on : (coin : ℕ) (items now : List ℕ) (i z : ℕ) → coin < 2 → i < length items / 2 → z ≡ get_or now (2 * i + coin) 0 → IsHalving coin items now i → IsHalving coin items (set now i z) (i + 1)
halving_goes_on coin items now i z side inside is so_far = record {
  len = length-set now i z ∙ so_far.len;
  front = take_more_set now i z within ∙ ap (λ (l : List ℕ). l ++ z ∷ []) so_far.front ∙ ap (λ (n : ℕ). take i (halved coin items) ++ n ∷ []) (is ∙ taken)
      ∙ sym (take_more (halved coin items) i 0 (omega (arith, length-halved coin items)));
  rest = drop-set-lt (i + 1) now i z (omega arith) ∙ sym (drop-drop 1 i now) ∙ ap (λ (l : List ℕ). drop 1 l) so_far.rest ∙ drop-drop 1 i items;
}
  where
    within : i < length now
    within = omega (arith, so_far.len)

    at : i + (i + coin) ≡ 2 * i + coin
    at = omega arith

    taken : get_or now (2 * i + coin) 0 ≡ get_or (halved coin items) i 0
    taken =
        ap (λ (n : ℕ). get_or now n 0) (sym at) ∙ sym (get_or-drop i now (i + coin) 0) ∙ ap (λ (l : List ℕ). get_or l (i + coin) 0) so_far.rest ∙ get_or-drop i items (i + coin) 0
        ∙ ap (λ (n : ℕ). get_or items n 0) at
        ∙ sym (get_or-halved coin items i 0 side inside)

pub halving_ends : (coin : ℕ) (items now : List ℕ) (i half : ℕ) → half ≡ length items / 2 → i ≡ half → IsHalving coin items now i → take half now ≡ halved coin items
halving_ends coin items now i half is same so_far =
    ap (λ (n : ℕ). take n now) (sym same) ∙ so_far.front ∙ take_all i (halved coin items) (omega (arith, length-halved coin items))
