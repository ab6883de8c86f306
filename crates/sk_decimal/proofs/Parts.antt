-- Known bytes that grow by one text and then by another.
use Rattle.std.proofs.Common.{◌≡◌, ℕ, ◌+◌, ◌<◌, List, ◌++◌, length, take, drop, Option, Result, Ok, Err, OnOk, OnErr, refl, sym, ap, ◌∙◌, subst, arith, length-append, take-add, take_at, drop_at}
use Rattle.std.proofs.lemmas.List.{take-append-le}
use Rattle.std.specs.Io.KnownBytes.{Appends}
use Rattle.std.proofs.KnownBytes.{Appends-trans}
use Rattle.sk_model.specs.Causes.{AppendsPart}

pub on_ok : {T E A B : Type 0} (r : Result T E) → (A → B) → OnOk r A → OnOk r B
on_ok (Ok x) f here = f here
on_ok (Err e) f here = tt

pub on_err : {T E A B : Type 0} (r : Result T E) → (A → B) → OnErr r A → OnErr r B
on_err (Ok x) f here = tt
on_err (Err e) f here = f here

-- a part of the first is a part of both
pub part_first : (a b : Option (List ℕ)) (xs ys : List ℕ) → AppendsPart a b xs → AppendsPart a b (xs ++ ys)
part_first a b xs ys part =
    let less = part.1 in
    (part.0, omega (arith, length-append xs ys, less), subst (Appends a b) (sym (take-append-le part.0 xs ys (omega (arith, less)))) part.2)

take_behind : (xs ys : List ℕ) (n : ℕ) → take (length xs + n) (xs ++ ys) ≡ xs ++ take n ys
take_behind xs ys n =
    take-add (length xs) n (xs ++ ys) ∙ ap (λ (l : List ℕ). l ++ take n (drop (length xs) (xs ++ ys))) (take_at xs ys (length xs) refl)
    ∙ ap (λ (l : List ℕ). xs ++ take n l) (drop_at xs ys (length xs) refl)

-- the first and a part of the second are a part of both
pub part_behind : (a b c : Option (List ℕ)) (xs ys : List ℕ) → Appends a b xs → AppendsPart b c ys → AppendsPart a c (xs ++ ys)
part_behind a b c xs ys whole part =
    let less = part.1 in
    (length xs + part.0, omega (arith, length-append xs ys, less), subst (Appends a c) (sym (take_behind xs ys part.0)) (Appends-trans a b c xs (take part.0 ys) whole part.2))

-- the bytes that were appended, by what they make of a text
pub by_bytes : {T E : Type 0} (r : Result T E) (a b : Option (List ℕ)) (bytes all front : List ℕ) → all ≡ front ++ bytes → OnOk r (Appends a b bytes) → OnOk r ((x : List ℕ) × Appends a b x × (all ≡ front ++ x))
by_bytes (Ok v) a b bytes all front is here = (bytes, here, is)
by_bytes (Err e) a b bytes all front is here = tt

pub by_part : {T E : Type 0} (r : Result T E) (a b : Option (List ℕ)) (bytes all front : List ℕ) → all ≡ front ++ bytes → OnErr r (AppendsPart a b bytes) → OnErr r ((x : List ℕ) × AppendsPart a b x × (all ≡ front ++ x))
by_part (Ok v) a b bytes all front is here = tt
by_part (Err e) a b bytes all front is here = (bytes, here, is)
