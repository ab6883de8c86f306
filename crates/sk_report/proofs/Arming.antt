-- Places of a board that are armed, or let go, one after another.
use Rattle.std.proofs.Common.{◌≡◌, ◌≢◌, ⊎_elim, ℕ, zero, suc, ◌+◌, ◌/◌, ◌%◌, ◌^◌, ◌<◌, ◌≤◌, if◌then◌else◌, Bool, true, false, List, [], ◌∷◌, length, map, get_or, set, Some, None, option_map, is_some, refl, sym, ap, subst, ◌∙◌, arith, get_or-set_same, get_or-set_other, lit≤, nat_eq, eq-eqb}
use Rattle.std.specs.Option.{IsSome}
use Rattle.std.specs.Bool.{OnTrue, OnFalse}
use Rattle.std.proofs.lemmas.Bool.{eqb-true}
use Rattle.std.specs.Int.{bit_at}
use Rattle.std.specs.Prelude.{bit_and}
use Rattle.std.proofs.lemmas.Nat.Bits.{shr_and_one}
use Rattle.std.proofs.lemmas.Bool.{cases_lt}
use Rattle.std.proofs.lemmas.List.{length-set, get_or-map, length-map}
use Rattle.std.proofs.Math.Nat.{div-eq_of_lt, pow-le-pow_right}
use Rattle.sk_watch.specs.Masks.{mask_of}
use Rattle.sk_watch.specs.Places.{Place, IsLive, armed_at}
use Rattle.sk_watch.specs.Watching.{armed}
use Rattle.sk_watch.proofs.Masks.{bits_of_masks}
use Rattle.sk_report.specs.Boards.{ArmsFirst, LetsGo, LetsGoFrom}
use Rattle.sk_report.specs.Texts.{armed_with}

-- ---- lists by their places

past : {A : Type 0} (xs : List A) (i : ℕ) (d : A) → length xs ≤ i → get_or xs i d ≡ d
past [] i d le = refl
past (x ∷ xs) zero d le = absurd (omega arith)
past (x ∷ xs) (suc i) d le = past xs i d (omega arith)

same_lists : {A : Type 0} (d : A) (xs ys : List A) → length xs ≡ length ys → ((i : ℕ) → get_or xs i d ≡ get_or ys i d) → xs ≡ ys
same_lists d [] [] count same = refl
same_lists d [] (y ∷ ys) count same = absurd (omega (arith, count))
same_lists d (x ∷ xs) [] count same = absurd (omega (arith, count))
same_lists d (x ∷ xs) (y ∷ ys) count same = ap (λ z. z ∷ xs) (same 0) ∙ ap (λ l. y ∷ l) (same_lists d xs ys (omega (arith, count)) (λ i. same (suc i)))

-- ---- armed

pub none_armed : (k : ℕ) (marks : List ℕ) (places : List Place) → ArmsFirst k marks 0 places places
none_armed k marks places = record { count = refl; first = λ i within. absurd (omega arith); others = λ i after. refl }

pub still_live : (k : ℕ) (marks : List ℕ) (n : ℕ) (places now : List Place) → IsLive n places → ArmsFirst k marks n places now → IsLive n now
still_live k marks n places now live arms = subst (λ p. IsSome p) (sym (arms.others n (omega arith))) live

live_inside : (i : ℕ) (places : List Place) → IsLive i places → i < length places
live_inside i places live = ⊎_elim (λ (in' : i < length places). in') (λ (out : length places ≤ i). no_live (get_or places i None) (past places i None out) live) (cases_lt i (length places))
  where
    no_live : (p : Place) → p ≡ None → IsSome p → i < length places
    no_live None is live = let none : false ≡ true = live in absurd (cc)
    no_live (Some w) is live = absurd (let e = is in cc)

at_place : (places : List Place) (n : ℕ) (p : Place) → n < length places → get_or (set places n p) n None ≡ p
at_place places n p inside = rw get_or-set_same

elsewhere : (places : List Place) (n i : ℕ) (p : Place) → i ≢ n → get_or (set places n p) i None ≡ get_or places i None
elsewhere places n i p other = rw get_or-set_other

pub one_armed : (k : ℕ) (marks : List ℕ) (n : ℕ) (places now next : List Place) → IsLive n places → ArmsFirst k marks n places now → next ≡ armed_at n k (get_or marks n 0) now → ArmsFirst k marks (n + 1) places next
one_armed k marks n places now next live arms is = subst (ArmsFirst k marks (n + 1) places) (sym is) (record {
  count = length-set now n (option_map (armed k (get_or marks n 0)) (get_or now n None)) ∙ arms.count;
  first = λ i within. ⊎_elim
      (λ (before : i < n). let other : i ≢ n = omega arith in elsewhere now n i (option_map (armed k (get_or marks n 0)) (get_or now n None)) other ∙ (arms.first i before))
      (λ (here : n ≤ i). let same : n ≡ i = omega arith in
      subst (λ j. get_or (set now n (option_map (armed k (get_or marks n 0)) (get_or now n None))) j None ≡ option_map (armed k (get_or marks j 0)) (get_or places j None)) same
      (at_place now n (option_map (armed k (get_or marks n 0)) (get_or now n None)) inside ∙ ap (option_map (armed k (get_or marks n 0))) (arms.others n (omega arith))))
      (cases_lt i n);
  others = λ i after. let other : i ≢ n = omega arith in elsewhere now n i (option_map (armed k (get_or marks n 0)) (get_or now n None)) other ∙ (arms.others i (omega arith));
})
  where
    inside : n < length now
    inside = live_inside n now (still_live k marks n places now live arms)

-- ---- let go

-- a bit of a mask of live places
bit_is : (places : List Place) (mask i : ℕ) → mask ≡ mask_of (map (λ p. is_some p) places) → bit_at mask i ≡ (if get_or (map (λ p. is_some p) places) i false then 1 else 0)
bit_is places mask i is = ap (λ m. bit_at m i) is ∙ bits_of_masks (map (λ p. is_some p) places) i

pub lit_inside : (places : List Place) (mask i : ℕ) → mask ≡ mask_of (map (λ p. is_some p) places) → bit_at mask i ≡ 1 → i < length places
lit_inside places mask i is lit = ⊎_elim (λ (in' : i < length places). in')
    (λ (out : length places ≤ i).
    let dark = past (map (λ (p : Place). is_some p) places) i false (omega (arith, length-map places (λ (p : Place). is_some p), out)) in
    let zero_is : bit_at mask i ≡ 0 = bit_is places mask i is ∙ ap (λ b. if b then 1 else 0) dark in absurd (omega (arith, lit, zero_is)))
    (cases_lt i (length places))

bit : Bool → ℕ
bit b = if b then 1 else 0

no_some : (p : Place) → (bit (is_some p) ≡ 1 → ⊥) → p ≡ None
unfolding bit
no_some None dark = refl
no_some (Some w) dark = absurd (dark refl)

pub dark_none : (places : List Place) (mask i : ℕ) → mask ≡ mask_of (map (λ p. is_some p) places) → bit_at mask i ≢ 1 → get_or places i None ≡ None
unfolding bit
dark_none places mask i is dark = ⊎_elim
    (λ (in' : i < length places). no_some (get_or places i None) (λ lit. dark (bit_is places mask i is ∙ ap (λ b. if b then 1 else 0) (get_or-map (λ (p : Place). is_some p) places i None false in') ∙ lit)))
    (λ (out : length places ≤ i). past places i None out)
    (cases_lt i (length places))

pub none_gone : (from : ℕ) (places : List Place) → LetsGo from from places places
none_gone from places = record { count = refl; before = λ i b. refl; gone = λ i b c. absurd (omega arith); behind = λ i b. refl }

-- a place that is let go, or was none
pub one_gone : (from to : ℕ) (places now next : List Place) → from ≤ to → LetsGo from to places now → to < length now → next ≡ set now to None → LetsGo from (to + 1) places next
one_gone from to places now next le gone inside is = subst (LetsGo from (to + 1) places) (sym is) (record {
  count = length-set now to None ∙ gone.count;
  before = λ i b. let other : i ≢ to = omega arith in elsewhere now to i None other ∙ (gone.before i b);
  gone = λ i b c. ⊎_elim
      (λ (front : i < to). let other : i ≢ to = omega arith in elsewhere now to i None other ∙ (gone.gone i b front))
      (λ (here : to ≤ i). let same : to ≡ i = omega arith in subst (λ j. get_or (set now to None) j None ≡ None) same (at_place now to None inside))
      (cases_lt i to);
  behind = λ i b. let other : i ≢ to = omega arith in elsewhere now to i None other ∙ (gone.behind i (omega arith));
})

pub one_none : (from to : ℕ) (places now : List Place) → LetsGo from to places now → get_or places to None ≡ None → LetsGo from (to + 1) places now
one_none from to places now gone none = record {
  count = gone.count;
  before = gone.before;
  gone = λ i b c. ⊎_elim
      (λ (front : i < to). gone.gone i b front)
      (λ (here : to ≤ i). let same : to ≡ i = omega arith in subst (λ j. get_or now j None ≡ None) same (gone.behind to (omega arith) ∙ none))
      (cases_lt i to);
  behind = λ i b. gone.behind i (omega arith);
}

-- where the mask has the place, its watcher goes
pub one_gone_if : (from to : ℕ) (places now next : List Place) (mask : ℕ) (lit : Bool) → from ≤ to → mask ≡ mask_of (map (λ p. is_some p) places) → lit ≡ nat_eq (bit_and (mask / 2 ^ to) 1) 1 → LetsGo from to places now
    → OnTrue lit (next ≡ set now to None) → OnFalse lit (next ≡ now) → LetsGo from (to + 1) places next
one_gone_if from to places now next mask true le is bit gone there none =
    one_gone from to places now next le gone (omega (arith, gone.count, lit_inside places mask to is (sym (shr_and_one mask to) ∙ eqb-true (bit_and (mask / 2 ^ to) 1) 1 (sym bit)))) there
one_gone_if from to places now next mask false le is bit gone there none = subst (LetsGo from (to + 1) places) (sym none)
    (one_none from to places now gone (dark_none places mask to is (λ lit. let no : true ≡ false = sym (eq-eqb (bit_and (mask / 2 ^ to) 1) 1 (shr_and_one mask to ∙ lit)) ∙ sym bit in absurd (cc))))

pub there_inside : (from to : ℕ) (places now : List Place) (mask : ℕ) (lit : Bool) → mask ≡ mask_of (map (λ p. is_some p) places) → lit ≡ nat_eq (bit_and (mask / 2 ^ to) 1) 1 → LetsGo from to places now → OnTrue lit (to < length now)
there_inside from to places now mask true is bit gone = omega (arith, gone.count, lit_inside places mask to is (sym (shr_and_one mask to) ∙ eqb-true (bit_and (mask / 2 ^ to) 1) 1 (sym bit)))
there_inside from to places now mask false is bit gone = tt

pub all_gone : (from to : ℕ) (places now : List Place) (mask : ℕ) → mask ≡ mask_of (map (λ p. is_some p) places) → mask < 2 ^ to → LetsGo from to places now → LetsGoFrom from places now
all_gone from to places now mask is small gone = record {
  count = gone.count;
  before = gone.before;
  gone = λ i b. ⊎_elim (λ (front : i < to). gone.gone i b front) (λ (back : to ≤ i). gone.behind i back ∙ dark_none places mask i is (λ lit. absurd (high i back lit))) (cases_lt i to);
}
  where
    high : (i : ℕ) → to ≤ i → bit_at mask i ≡ 1 → ⊥
    high i back lit =
        let low : mask < 2 ^ i = omega (arith, pow-le-pow_right {n = 2} (lit≤ tt) back, small) in
        let none : bit_at mask i ≡ 0 = ap (λ q. q % 2) (div-eq_of_lt low) in omega (arith, none, lit)

-- ---- both

armed_front : (k : ℕ) (marks : List ℕ) (places : List Place) (i : ℕ) → i < length marks → get_or (armed_with k marks places) i None ≡ option_map (armed k (get_or marks i 0)) (get_or places i None)
unfolding armed_with
armed_front k marks [] i within = refl
armed_front k [] (p ∷ places) i within = absurd (omega arith)
armed_front k (m ∷ marks) (p ∷ places) zero within = refl
armed_front k (m ∷ marks) (p ∷ places) (suc i) within = armed_front k marks places i (omega arith)

armed_back : (k : ℕ) (marks : List ℕ) (places : List Place) (i : ℕ) → length marks ≤ i → get_or (armed_with k marks places) i None ≡ None
unfolding armed_with
armed_back k marks [] i after = refl
armed_back k [] (p ∷ places) zero after = refl
armed_back k [] (p ∷ places) (suc i) after = armed_back k [] places i (omega arith)
armed_back k (m ∷ marks) (p ∷ places) zero after = absurd (omega arith)
armed_back k (m ∷ marks) (p ∷ places) (suc i) after = armed_back k marks places i (omega arith)

armed_length : (k : ℕ) (marks : List ℕ) (places : List Place) → length (armed_with k marks places) ≡ length places
unfolding armed_with
armed_length k marks [] = refl
armed_length k [] (p ∷ places) = ap suc (armed_length k [] places)
armed_length k (m ∷ marks) (p ∷ places) = ap suc (armed_length k marks places)

pub armed_all : (k : ℕ) (marks : List ℕ) (places first all : List Place) → ArmsFirst k marks (length marks) places first → LetsGoFrom (length marks) first all → all ≡ armed_with k marks places
armed_all k marks places first all arms gone = same_lists None all (armed_with k marks places) (gone.count ∙ arms.count ∙ sym (armed_length k marks places)) (λ i. ⊎_elim
    (λ (front : i < length marks). gone.before i front ∙ arms.first i front ∙ sym (armed_front k marks places i front))
    (λ (back : length marks ≤ i). gone.gone i back ∙ sym (armed_back k marks places i back))
    (cases_lt i (length marks)))

-- ---- who is there

some_lit : (p : Place) → bit (is_some p) ≡ 1 → IsSome p
unfolding bit
some_lit None lit = absurd (omega (arith, lit))
some_lit (Some w) lit = refl

pub lit_live : (places : List Place) (mask i : ℕ) → mask ≡ mask_of (map (λ p. is_some p) places) → bit_and (mask / 2 ^ i) 1 ≡ 1 → IsLive i places
unfolding bit
lit_live places mask i is lit =
    let at : bit_at mask i ≡ 1 = sym (shr_and_one mask i) ∙ lit in
    some_lit (get_or places i None) (ap (λ b. if b then 1 else 0) (sym (get_or-map (λ (p : Place). is_some p) places i None false (lit_inside places mask i is at))) ∙ sym (bit_is places mask i is) ∙ at)

pub one_live : (places : List Place) (n : ℕ) → ((i : ℕ) → i < n → IsLive i places) → IsLive n places → (i : ℕ) → i < n + 1 → IsLive i places
one_live places n before here i within = ⊎_elim (λ (front : i < n). before i front) (λ (back : n ≤ i). let same : n ≡ i = omega arith in subst (λ j. IsLive j places) same here) (cases_lt i n)
