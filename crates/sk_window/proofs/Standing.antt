-- Sketches that stand for lists, one for each.
use Rattle.std.proofs.Common.{◌≡◌, ℕ, zero, suc, ◌+◌, ◌-◌, ◌<◌, ◌≤◌, min, ⊎_elim, List, [], ◌∷◌, ◌++◌, length, take, drop, replicate, get_or, All, Bool, false, if◌then◌else◌, nat_lt, Some, None, refl, subst, sym, ap, ◌∙◌, arith, append-nil, append_assoc, length-append}
use Rattle.std.proofs.Math.Seq.{take-suc, drop-append-add}
use Rattle.std.specs.List.{slice_get}
use Rattle.std.proofs.lemmas.Bool.{cases_lt}
use Rattle.std.proofs.lemmas.Bool.Decides.{nat_tests}
use Rattle.std.proofs.lemmas.Option.{slice_get-get_or}
use Rattle.std.proofs.lemmas.List.{drop-drop, drop-append-le, drop-replicate, length-replicate, replicate-append-replicate}
use Rattle.std.proofs.lemmas.List.Elements.{All-tail}
use Rattle.std.proofs.lemmas.Grind.{flat_map-append}
use Rattle.circular_buffer.specs.Buffer.{keep_last}
use Rattle.sk_theta.specs.Kept.{Sketch, StandsFor}
use Rattle.sk_window.specs.Intervals.{StandForEach, all_items, with_skipped}

pub stand_count : (k : ℕ) (ss : List Sketch) (ls : List (List ℕ)) → StandForEach k ss ls → length ss ≡ length ls
stand_count k [] [] each = refl
stand_count k [] (l ∷ ls) each = absurd each
stand_count k (s ∷ ss) [] each = absurd each
stand_count k (s ∷ ss) (l ∷ ls) each = ap suc (stand_count k ss ls each.2)

pub stand_push : (k : ℕ) (ss : List Sketch) (ls : List (List ℕ)) (s : Sketch) (l : List ℕ) → StandForEach k ss ls → s.k ≡ k → StandsFor s l → StandForEach k (ss ++ s ∷ []) (ls ++ l ∷ [])
stand_push k [] [] s l each same stands = (same, stands, tt)
stand_push k [] (m ∷ ls) s l each same stands = absurd each
stand_push k (t ∷ ss) [] s l each same stands = absurd each
stand_push k (t ∷ ss) (m ∷ ls) s l each same stands = (each.0, each.1, stand_push k ss ls s l each.2 same stands)

pub stand_rest : (k : ℕ) (ss : List Sketch) (ls : List (List ℕ)) → StandForEach k ss ls → StandForEach k (drop 1 ss) (drop 1 ls)
stand_rest k [] [] each = each
stand_rest k [] (l ∷ ls) each = absurd each
stand_rest k (s ∷ ss) [] each = absurd each
stand_rest k (s ∷ ss) (l ∷ ls) each = each.2

pub stand_at : (k : ℕ) (ss : List Sketch) (ls : List (List ℕ)) (i : ℕ) (d : Sketch) (e : List ℕ) → i < length ss → StandForEach k ss ls → StandsFor (get_or ss i d) (get_or ls i e)
stand_at k [] ls i d e within each = absurd (omega arith)
stand_at k (s ∷ ss) [] i d e within each = absurd each
stand_at k (s ∷ ss) (l ∷ ls) zero d e within each = each.1
stand_at k (s ∷ ss) (l ∷ ls) (suc i) d e within each = stand_at k ss ls i d e (omega arith) each.2

pub stand_k : (k : ℕ) (ss : List Sketch) (ls : List (List ℕ)) (i : ℕ) (d : Sketch) → i < length ss → StandForEach k ss ls → (get_or ss i d).k ≡ k
stand_k k [] ls i d within each = absurd (omega arith)
stand_k k (s ∷ ss) [] i d within each = absurd each
stand_k k (s ∷ ss) (l ∷ ls) zero d within each = each.0
stand_k k (s ∷ ss) (l ∷ ls) (suc i) d within each = stand_k k ss ls i d (omega arith) each.2

pub all_k : (k : ℕ) (ss : List Sketch) (ls : List (List ℕ)) → StandForEach k ss ls → All (λ s. s.k ≡ k) ss
all_k k ss ls each = λ i d within. stand_k k ss ls i d within each

pub all_rest : (k : ℕ) (ss : List Sketch) → All (λ s. s.k ≡ k) ss → All (λ s. s.k ≡ k) (drop 1 ss)
all_rest k [] all = all
all_rest k (s ∷ ss) all = All-tail (λ (t : Sketch). t.k ≡ k) s ss all

-- the item at a place, in place of which it may stand for itself
pub item_at : (ss : List Sketch) (i : ℕ) (s : Sketch) → i < length ss → Some s ≡ slice_get ss i → s ≡ get_or ss i s
item_at ss i s within is = let there : slice_get ss i ≡ Some (get_or ss i s) = slice_get-get_or ss i s within in cc

-- a full buffer gives up its first item
pub first_given : (n : ℕ) (ss : List Sketch) (s o : Sketch) → length ss ≡ n → 0 < length ss → Some o ≡ (if nat_lt (length ss) n then None else slice_get (ss ++ s ∷ []) 0) → o ≡ get_or ss 0 o
first_given n [] s o full some is = absurd (omega arith)
first_given n (t ∷ ss) s o full some is =
    let past : nat_lt (length (t ∷ ss)) n ≡ false = grind (arith, nat_tests) in
    let it : Some o ≡ (if false then None else slice_get ((t ∷ ss) ++ s ∷ []) 0) = subst (λ (b : Bool). Some o ≡ (if b then None else slice_get ((t ∷ ss) ++ s ∷ []) 0)) past is in
    let one : Some o ≡ Some t = it in
    cc

-- one more sketch in a full buffer takes the place of the oldest
pub pushed_full : (n : ℕ) (ss : List Sketch) (s : Sketch) → length ss ≡ n → 0 < length ss → keep_last n (ss ++ s ∷ []) ≡ drop 1 ss ++ s ∷ []
pushed_full n ss s full some =
    let one : length (ss ++ s ∷ []) - n ≡ 1 = omega (arith, length-append ss (s ∷ [])) in
    ap (λ m. drop m (ss ++ s ∷ [])) one ∙ drop-append-le 1 ss (s ∷ []) some

-- one more sketch in a buffer that has room
pub pushed_room : (n : ℕ) (ss : List Sketch) (s : Sketch) → length ss < n → keep_last n (ss ++ s ∷ []) ≡ ss ++ s ∷ []
pushed_room n ss s few =
    let none : length (ss ++ s ∷ []) - n ≡ 0 = omega (arith, length-append ss (s ∷ [])) in
    ap (λ m. drop m (ss ++ s ∷ [])) none

-- one list more
pub items_more : (ls : List (List ℕ)) (i : ℕ) (e items : List ℕ) → i < length ls → (items ++ all_items (take i ls)) ++ get_or ls i e ≡ items ++ all_items (take (suc i) ls)
items_more ls i e items within =
    append_assoc items (all_items (take i ls)) (get_or ls i e)
    ∙ ap (λ (l : List ℕ). items ++ l) (ap (λ (l : List ℕ). all_items (take i ls) ++ l) (sym (append-nil (get_or ls i e)))
    ∙ sym (flat_map-append (λ (l : List ℕ). l) (take i ls) (get_or ls i e ∷ []))
    ∙ ap all_items (sym (take-suc ls i e within)))

-- one interval more was skipped
pub skipped_more : (ls : List (List ℕ)) (n : ℕ) → 0 < length ls → with_skipped ls (n + 1) ≡ drop 1 (with_skipped ls n) ++ [] ∷ []
skipped_more ls n some =
    let before = ls ++ replicate n [] in
    let longer : ls ++ replicate (n + 1) [] ≡ before ++ [] ∷ [] = ap (λ l. ls ++ l) (sym (replicate-append-replicate n 1 [])) ∙ sym (append_assoc ls (replicate n []) ([] ∷ [])) in
    let few : n + 1 ≤ length before = omega (arith, length-append ls (replicate n []), length-replicate {A = List ℕ} n [], some) in
    ap (drop (n + 1)) longer ∙ drop-append-le (n + 1) before ([] ∷ []) few ∙ ap (λ l. l ++ [] ∷ []) (sym (drop-drop 1 n before))

-- of more intervals than there are lists none is left
all_skipped : (ls : List (List ℕ)) (more : ℕ) → with_skipped ls (length ls + more) ≡ replicate (length ls) []
all_skipped ls more =
    drop-append-add ls (replicate (length ls + more) []) more
    ∙ drop-replicate more (length ls + more) []
    ∙ ap (λ (n : ℕ). replicate n []) (omega arith)

pub skipped_all : (ls : List (List ℕ)) (n : ℕ) → with_skipped ls (min n (length ls)) ≡ with_skipped ls n
skipped_all ls n = ⊎_elim
    (λ (few : n < length ls). let is : min n (length ls) ≡ n = omega arith in ap (with_skipped ls) is)
    (λ (many : length ls ≤ n).
    let first : min n (length ls) ≡ length ls + 0 = omega arith in
    let second : n ≡ length ls + (n - length ls) = omega arith in
    ap (with_skipped ls) first ∙ all_skipped ls 0 ∙ sym (all_skipped ls (n - length ls)) ∙ ap (with_skipped ls) (sym second))
    (cases_lt n (length ls))
