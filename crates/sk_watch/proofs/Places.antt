-- Lemmas on lists whose members are seen through a function.
use Rattle.std.proofs.Common.{◌≡◌, ℕ, zero, suc, ◌+◌, ◌-◌, ◌<◌, Bool, true, false, List, [], ◌∷◌, ◌++◌, length, map, take, drop, get_or, set, Option, Some, None, option_map, is_some, refl, ap, ◌∙◌, sym, arith, length-take-le}
use Rattle.std.specs.Option.{IsSome}
use Rattle.std.proofs.lemmas.List.{length-map, map-set, get_or-map, get_or-append_right, get_or-drop}
use Rattle.std.proofs.lemmas.List.Edits.{map_over_more}

pub seen_inside : {X Y : Type 0} (f : X → Y) (xs : List X) (i : ℕ) → i < length xs → i < length (map f xs)
seen_inside f xs i inside = omega (arith, length-map xs f)

seen_at : {X Y : Type 0} (f : X → Y) (xs : List X) (i : ℕ) (was : X) (e : Y) → i < length xs → was ≡ get_or xs i was → f was ≡ get_or (map f xs) i e
seen_at f xs i was e inside is = ap f is ∙ sym (get_or-map f xs i was e inside)

-- one member was changed by h
pub seen-set : {X Y : Type 0} (f : X → Y) (h : Y → Y) (xs : List X) (i : ℕ) (was now : X) (e : Y) → i < length xs → was ≡ get_or xs i was → f now ≡ h (f was) →
    map f (set xs i now) ≡ set (map f xs) i (h (get_or (map f xs) i e))
seen-set f h xs i was now e inside is changed = map-set f xs i now ∙ ap (λ y. set (map f xs) i y) (changed ∙ ap h (seen_at f xs i was e inside is))

-- the members before i were changed by h, and that at i is as it was
pub seen_next : {X Y : Type 0} (f : X → Y) (h : Y → Y) (old xs : List X) (i : ℕ) (was : X) (e : Y) → i < length old → length xs ≡ length old →
    map f xs ≡ map h (take i (map f old)) ++ drop i (map f old) → was ≡ get_or xs i was → f was ≡ get_or (map f old) i e
seen_next f h old xs i was e inside same split is =
    seen_at f xs i was e (omega (arith, same)) is ∙ ap (λ l. get_or l i e) split
    ∙ get_or-append_right (map h (take i (map f old))) (drop i (map f old)) i i e first (omega arith)
    ∙ get_or-drop i (map f old) (i - i) e ∙ ap (λ n. get_or (map f old) n e) (omega arith)
  where
    first : length (map h (take i (map f old))) ≡ i
    first = length-map (take i (map f old)) h ∙ length-take-le i (map f old) (omega (arith, length-map old f))

-- then that at i was changed too
pub seen_more : {X Y : Type 0} (f : X → Y) (h : Y → Y) (old xs : List X) (i : ℕ) (was now : X) → i < length old → length xs ≡ length old →
    map f xs ≡ map h (take i (map f old)) ++ drop i (map f old) → was ≡ get_or xs i was → f now ≡ h (f was) →
    map f (set xs i now) ≡ map h (take (i + 1) (map f old)) ++ drop (i + 1) (map f old)
seen_more f h old xs i was now inside same split is changed =
    map-set f xs i now ∙ ap (λ y. set (map f xs) i y) changed
    ∙ map_over_more h (map f old) (map f xs) i (f was) (omega (arith, length-map old f)) split (seen_at f xs i was (f was) (omega (arith, same)) is)

-- whether something is there is seen
pub seen-is_some : {X Y : Type 0} (f : X → Y) (xs : List (Option X)) → map is_some xs ≡ map is_some (map (option_map f) xs)
seen-is_some f [] = refl
seen-is_some f (None ∷ xs) = ap (λ (l : List Bool). false ∷ l) (seen-is_some f xs)
seen-is_some f (Some x ∷ xs) = ap (λ (l : List Bool). true ∷ l) (seen-is_some f xs)

-- where something is seen, there is a place
pub seen_within : {X Y : Type 0} (f : X → Y) (xs : List (Option X)) (i : ℕ) → IsSome (get_or (map (option_map f) xs) i None) → i < length xs
seen_within f [] i live = grind arith
seen_within f (x ∷ xs) zero live = omega arith
seen_within f (x ∷ xs) (suc i) live = omega (arith, seen_within f xs i live)
