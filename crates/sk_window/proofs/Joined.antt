-- Sketches that are joined: by the hashes below a bound, and whole.
use Rattle.std.proofs.Common.{◌≡◌, ◌⊎◌, inl, inr, ⊎_elim, ℕ, zero, suc, ◌<◌, ◌≤◌, nat_lt, if◌then◌else◌, Bool, true, false, List, [], ◌∷◌, ◌++◌, length, take, get_or, refl, sym, ap, subst, ◌∙◌, arith, append-nil, append_assoc}
use Rattle.std.proofs.Math.Seq.{take-suc}
use Rattle.std.proofs.lemmas.Bool.{cases_lt}
use Rattle.std.proofs.lemmas.Bool.Decides.{nat_tests}
use Rattle.std.proofs.lemmas.Grind.{flat_map-append}
use Rattle.std.proofs.lemmas.List.Elements.{All-contains, filter-append}
use Rattle.sk_model.specs.Sketch.{k_smallest, theta_of}
use Rattle.sk_model.specs.Width.{IsItem, AreItems}
use Rattle.sk_model.proofs.Rising.{Has, Has-from_Contains, Contains-from_Has, Has-append_left}
use Rattle.sk_model.proofs.Sketch.{a_batch_more, idle_once, k_smallest_append, k_smallest_has_members, k_smallest_of_members}
use Rattle.sk_theta.specs.Kept.{Sketch}
use Rattle.sk_compose.proofs.Smallest.{has_right, has_cases, same_smallest}
use Rattle.sk_heap.specs.Heap.{HasSame}
use Rattle.sk_heap.proofs.Counts.{times_from_at, at_from_times}
use Rattle.sk_window.specs.Intervals.{StandForEach, all_items}
use Rattle.sk_window.specs.Joins.{all_kept, below}

-- ---- what is below a bound

below_step : (b : Bool) (x : ℕ) (ys : List ℕ) (z : ℕ) → Has (if b then x ∷ ys else ys) z → (x ≡ z) ⊎ Has ys z
below_step true x ys z h = h
below_step false x ys z h = inr h

pub below_has : (bound : ℕ) (xs : List ℕ) (z : ℕ) → Has (below bound xs) z → Has xs z
below_has bound [] z h = absurd h
below_has bound (x ∷ xs) z h = ⊎_elim inl (λ rest. inr (below_has bound xs z rest)) (below_step (nat_lt x bound) x (below bound xs) z h)

first_below : (b : Bool) (x : ℕ) (ys : List ℕ) (z : ℕ) → b ≡ true → x ≡ z → Has (if b then x ∷ ys else ys) z
first_below true x ys z less is = inl is
first_below false x ys z less is = let no : ⊥ = cc in absurd no

rest_below : (b : Bool) (x : ℕ) (ys : List ℕ) (z : ℕ) → Has ys z → Has (if b then x ∷ ys else ys) z
rest_below true x ys z h = inr h
rest_below false x ys z h = h

pub has_below : (bound : ℕ) (xs : List ℕ) (z : ℕ) → z < bound → Has xs z → Has (below bound xs) z
has_below bound [] z less h = absurd h
has_below bound (x ∷ xs) z less h = ⊎_elim
    (λ is. let test : nat_lt x bound ≡ true = grind (arith, nat_tests) in first_below (nat_lt x bound) x (below bound xs) z test is)
    (λ rest. rest_below (nat_lt x bound) x (below bound xs) z (has_below bound xs z less rest))
    h

pub one_below : (bound h : ℕ) → nat_lt h bound ≡ true → below bound (h ∷ []) ≡ h ∷ []
one_below bound h less = ap (λ (b : Bool). if b then h ∷ [] else []) less

pub none_below : (bound h : ℕ) → nat_lt h bound ≡ false → below bound (h ∷ []) ≡ []
none_below bound h past = ap (λ (b : Bool). if b then h ∷ [] else []) past

pub below_more : (bound : ℕ) (items xs ys : List ℕ) → (items ++ below bound xs) ++ below bound ys ≡ items ++ below bound (xs ++ ys)
below_more bound items xs ys = append_assoc items (below bound xs) (below bound ys) ∙ ap (λ (l : List ℕ). items ++ l) (sym (filter-append (λ (hash : ℕ). nat_lt hash bound) xs ys))

-- ---- lists with the same members

pub has_same : (xs ys : List ℕ) (z : ℕ) → HasSame xs ys → Has xs z → Has ys z
has_same xs ys z same h =
    let at = Contains-from_Has xs z h in
    let there = at_from_times ys z (omega (arith, same z, times_from_at xs z at.0 at.1 (at_0 xs z at.0 at.1 at.2))) in
    Has-from_Contains ys z (there.0, there.1, at_z ys z there.0 there.1 there.2)
  where
    at_0 : (xs : List ℕ) (z i : ℕ) → i < length xs → get_or xs i z ≡ z → get_or xs i 0 ≡ z
    at_0 [] z i within is = absurd (omega arith)
    at_0 (x ∷ xs) z zero within is = is
    at_0 (x ∷ xs) z (suc i) within is = at_0 xs z i (omega arith) is

    at_z : (xs : List ℕ) (z i : ℕ) → i < length xs → get_or xs i 0 ≡ z → get_or xs i z ≡ z
    at_z [] z i within is = absurd (omega arith)
    at_z (x ∷ xs) z zero within is = is
    at_z (x ∷ xs) z (suc i) within is = at_z xs z i (omega arith) is

get_any : (xs : List ℕ) (i d e : ℕ) → i < length xs → get_or xs i d ≡ get_or xs i e
get_any [] i d e within = absurd (omega arith)
get_any (x ∷ xs) zero d e within = refl
get_any (x ∷ xs) (suc i) d e within = get_any xs i d e (omega arith)

pub items_same : (xs ys : List ℕ) → HasSame xs ys → AreItems ys → AreItems xs
items_same xs ys same all = λ i d within.
    let x = get_or xs i d in
    All-contains IsItem ys x all (Contains-from_Has ys x (has_same xs ys x same (Has-from_Contains xs x (i, within, get_any xs i x d within))))

-- the members below a bound are the same, too
pub same_below : (k bound : ℕ) (items xs ys : List ℕ) → HasSame xs ys → k_smallest k (items ++ below bound xs) ≡ k_smallest k (items ++ below bound ys)
same_below k bound items xs ys same = k_smallest_of_members k (items ++ below bound xs) (items ++ below bound ys)
    (λ z c. Contains-from_Has (items ++ below bound ys) z (moved xs ys z same (Has-from_Contains (items ++ below bound xs) z c)))
    (λ z c. Contains-from_Has (items ++ below bound xs) z (moved ys xs z (λ x. sym (same x)) (Has-from_Contains (items ++ below bound ys) z c)))
  where
    kept_below : (xs : List ℕ) (z : ℕ) → Has (below bound xs) z → z < bound
    kept_below [] z h = absurd h
    kept_below (x ∷ xs) z h = ⊎_elim
        (λ (less : x < bound). ⊎_elim (λ is. omega (arith, is, less)) (λ rest. kept_below xs z rest) (below_step (nat_lt x bound) x (below bound xs) z h))
        (λ (past : bound ≤ x).
        let test : nat_lt x bound ≡ false = grind (arith, nat_tests) in
        kept_below xs z (subst (λ (b : Bool). Has (if b then x ∷ below bound xs else below bound xs) z) test h))
        (cases_lt x bound)

    moved : (xs ys : List ℕ) (z : ℕ) → HasSame xs ys → Has (items ++ below bound xs) z → Has (items ++ below bound ys) z
    moved xs ys z same h = ⊎_elim
        (λ old. Has-append_left items (below bound ys) z old)
        (λ new. has_right items (below bound ys) z (has_below bound ys z (kept_below xs z new) (has_same xs ys z same (below_has bound xs z new))))
        (has_cases items (below bound xs) z h)

-- ---- several sketches

pub kept_more : (ss : List Sketch) (i : ℕ) (s : Sketch) → i < length ss → all_kept (take (suc i) ss) ≡ all_kept (take i ss) ++ (get_or ss i s).kept
kept_more ss i s within =
    ap all_kept (take-suc ss i s within)
    ∙ flat_map-append (λ (t : Sketch). t.kept) (take i ss) (get_or ss i s ∷ [])
    ∙ ap (λ (l : List ℕ). all_kept (take i ss) ++ l) (append-nil (get_or ss i s).kept)

-- what they keep is among the items of their lists
kept_in_lists : (k : ℕ) (ss : List Sketch) (ls : List (List ℕ)) (z : ℕ) → StandForEach k ss ls → Has (all_kept ss) z → Has (all_items ls) z
kept_in_lists k [] [] z each h = absurd h
kept_in_lists k [] (l ∷ ls) z each h = absurd each
kept_in_lists k (s ∷ ss) [] z each h = absurd each
kept_in_lists k (s ∷ ss) (l ∷ ls) z each h = ⊎_elim
    (λ own.
    let there : Has (k_smallest s.k l) z = subst (λ (xs : List ℕ). Has xs z) each.1 own in
    Has-append_left l (all_items ls) z (Has-from_Contains l z (k_smallest_has_members s.k l z (Contains-from_Has (k_smallest s.k l) z there))))
    (λ rest. has_right l (all_items ls) z (kept_in_lists k ss ls z each.2 rest))
    (has_cases s.kept (all_kept ss) z h)

-- and it has their k smallest
pub kept_same : (k : ℕ) (ss : List Sketch) (ls : List (List ℕ)) (items : List ℕ) → StandForEach k ss ls → k_smallest k (items ++ all_kept ss) ≡ k_smallest k (items ++ all_items ls)
kept_same k [] [] items each = refl
kept_same k [] (l ∷ ls) items each = absurd each
kept_same k (s ∷ ss) [] items each = absurd each
kept_same k (s ∷ ss) (l ∷ ls) items each =
    let more = all_items ls in
    let its : s.kept ≡ k_smallest k l = subst (λ (n : ℕ). s.kept ≡ k_smallest n l) each.0 each.1 in
    let one : k_smallest k (items ++ s.kept) ≡ k_smallest k (items ++ l) =
    sym (k_smallest_append k items s.kept)
    ∙ ap (λ (xs : List ℕ). k_smallest k (k_smallest k items ++ k_smallest k xs)) its
    ∙ ap (λ (xs : List ℕ). k_smallest k (k_smallest k items ++ xs)) (twice k l)
    ∙ k_smallest_append k items l in
    ap (k_smallest k) (sym (append_assoc items s.kept (all_kept ss)))
    ∙ kept_same k ss ls (items ++ s.kept) each.2
    ∙ a_batch_more k (items ++ s.kept) more
    ∙ ap (λ (xs : List ℕ). k_smallest k (xs ++ more)) one
    ∙ sym (a_batch_more k (items ++ l) more)
    ∙ ap (k_smallest k) (append_assoc items l more)
  where
    twice : (k : ℕ) (xs : List ℕ) → k_smallest k (k_smallest k xs) ≡ k_smallest k xs
    twice k xs = ap (k_smallest k) (sym (append-nil (k_smallest k xs))) ∙ sym (a_batch_more k xs []) ∙ ap (k_smallest k) (append-nil xs)

-- if theta is not above the bound, no other hash changes anything
enough : (k bound : ℕ) (items all : List ℕ) → AreItems all → theta_of k (items ++ below bound all) ≤ bound → k_smallest k (items ++ below bound all) ≡ k_smallest k (items ++ all)
enough k bound items all small low = same_smallest k (items ++ below bound all) (items ++ all)
    (λ z h. ⊎_elim (λ old. Has-append_left items all z old) (λ new. has_right items all z (below_has bound all z new)) (has_cases items (below bound all) z h))
    (λ z h. ⊎_elim
    (λ old. inl (Has-append_left items (below bound all) z old))
    (λ new. ⊎_elim
    (λ (less : z < bound). inl (has_right items (below bound all) z (has_below bound all z less new)))
    (λ (past : bound ≤ z).
    let item : IsItem z = All-contains IsItem all z small (Contains-from_Has all z new) in
    let idle : theta_of k (items ++ below bound all) ≤ z = omega (arith, low, past) in
    inr (idle_once k z (items ++ below bound all) item idle))
    (cases_lt z bound))
    (has_cases items all z h))

pub joined_below : (k bound : ℕ) (ss : List Sketch) (ls : List (List ℕ)) (items : List ℕ) → AreItems (all_kept ss) → StandForEach k ss ls → theta_of k (items ++ below bound (all_kept ss)) ≤ bound
    → k_smallest k (items ++ below bound (all_kept ss)) ≡ k_smallest k (items ++ all_items ls)
joined_below k bound ss ls items small each low = enough k bound items (all_kept ss) small low ∙ kept_same k ss ls items each

-- else they are joined once more
pub joined_again : (k bound : ℕ) (ss : List Sketch) (ls : List (List ℕ)) (items : List ℕ) → StandForEach k ss ls → k_smallest k ((items ++ below bound (all_kept ss)) ++ all_items ls) ≡ k_smallest k (items ++ all_items ls)
joined_again k bound ss ls items each =
    let some = below bound (all_kept ss) in
    let all = all_items ls in
    k_smallest_of_members k ((items ++ some) ++ all) (items ++ all)
    (λ z c. Contains-from_Has (items ++ all) z (⊎_elim
    (λ first. ⊎_elim
    (λ old. Has-append_left items all z old)
    (λ new. has_right items all z (kept_in_lists k ss ls z each (below_has bound (all_kept ss) z new)))
    (has_cases items some z first))
    (λ last. has_right items all z last)
    (has_cases (items ++ some) all z (Has-from_Contains ((items ++ some) ++ all) z c))))
    (λ z c. Contains-from_Has ((items ++ some) ++ all) z (⊎_elim
    (λ old. Has-append_left (items ++ some) all z (Has-append_left items some z old))
    (λ new. has_right (items ++ some) all z new)
    (has_cases items all z (Has-from_Contains (items ++ all) z c))))
