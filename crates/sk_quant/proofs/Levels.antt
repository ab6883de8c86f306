-- Lemmas on levels as loops find them, and on ranks in them.
use Rattle.std.proofs.Common.{◌≡◌, ℕ, zero, suc, ◌+◌, ◌-◌, ◌*◌, ◌<◌, ◌≤◌, Bool, true, false, cond, List, Vec, Global, [], ◌∷◌, length, get_or, drop, count_by, sym, ap, ◌∙◌, arith}
use Rattle.std.specs.List.{AllWithin}
use Rattle.std.proofs.lemmas.List.{drop_more, drop_all, get_or-map}
use Rattle.std.proofs.lemmas.Bool.{cond-true, cond-false}
use Rattle.std.proofs.lemmas.List.Sums.{sum_by-cons}
use Rattle.sk_quant.specs.Ranks.{rank_of, weighted_rank, weight_of}
use Rattle.sk_quant.specs.Stored.{lists_of}
use Rattle.sk_quant.proofs.Bounds.{weighted_rank-cons, weighted_rank-le, weight_of-drop}

-- a level that was read
pub level_read : (levels : List (Vec ℕ Global)) (i : ℕ) (level : Vec ℕ Global) → i < length levels → level ≡ get_or levels i level → get_or (lists_of levels) i [] ≡ level.items
level_read levels i level inside is =
    get_or-map (λ (v : Vec ℕ Global). v.items) levels i level [] inside ∙ ap (λ (v : Vec ℕ Global). v.items) (sym is)

-- what a member adds to how many pass a test
abbrev counted : (ℕ → Bool) → ℕ → ℕ
counted p x = cond (p x) 1 0

-- how many pass a test, where those that pass stand first
pub count_to_point : (p : ℕ → Bool) (xs : List ℕ) (i : ℕ) → i ≤ length xs → AllWithin (λ y. p y ≡ true) xs 0 i → AllWithin (λ y. p y ≡ false) xs i (length xs) → count_by p xs ≡ i
count_to_point p [] i within before behind = omega arith
count_to_point p (x ∷ xs) zero within before behind =
    let here : p x ≡ false = behind zero x (omega arith) (omega arith) in
    let first : counted p x ≡ 0 = cond-false (p x) 1 0 here in
    let rest : count_by p xs ≡ zero = count_to_point p xs zero (omega arith) (λ k d low high. absurd (omega arith)) (λ k d low high. behind (suc k) d (omega arith) (omega arith)) in
    omega (arith, sum_by-cons (counted p) x xs)
count_to_point p (x ∷ xs) (suc i) within before behind =
    let here : p x ≡ true = before zero x (omega arith) (omega arith) in
    let first : counted p x ≡ 1 = cond-true (p x) 1 0 here in
    let rest : count_by p xs ≡ i = count_to_point p xs i (omega arith) (λ k d low high. before (suc k) d (omega arith) (omega arith)) (λ k d low high. behind (suc k) d (omega arith) (omega arith)) in
    omega (arith, sum_by-cons (counted p) x xs)

-- one level more, from the last down
pub one_level_more : (x l : ℕ) (level : List ℕ) (levels : List (List ℕ)) → 0 < l → l ≤ length levels → get_or levels (l - 1) [] ≡ level → 2 * weighted_rank x (drop l levels) + rank_of x level ≡ weighted_rank x (drop (l - 1) levels)
one_level_more x l level levels some within is =
    let next : l - 1 + 1 ≡ l = omega arith in
    let parts : drop (l - 1) levels ≡ level ∷ drop l levels = drop_more levels (l - 1) [] (omega arith) ∙ ap (λ (n : ℕ). get_or levels (l - 1) [] ∷ drop n levels) next ∙ ap (λ (f : List ℕ). f ∷ drop l levels) is in
    omega (arith, ap (λ (ls : List (List ℕ)). weighted_rank x ls) parts, weighted_rank-cons x level (drop l levels))

pub no_level : (x n : ℕ) (levels : List (List ℕ)) → length levels ≤ n → 0 ≡ weighted_rank x (drop n levels)
unfolding weighted_rank
no_level x n levels past = sym (ap (λ (ls : List (List ℕ)). weighted_rank x ls) (drop_all n levels past))

-- what is above a level weighs no more than all
pub rank_of_some_levels : (x l : ℕ) (levels : List (List ℕ)) → weighted_rank x (drop l levels) ≤ weight_of levels
rank_of_some_levels x l levels = omega (arith, weighted_rank-le x (drop l levels), weight_of-drop l levels)
