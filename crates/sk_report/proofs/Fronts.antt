-- Texts that were written in part.
use Rattle.std.proofs.Common.{◌≡◌, ℕ, suc, ◌+◌, List, [], ◌∷◌, ◌++◌, length, take, Option, Result, Ok, Err, OnErr, refl, sym, ap, ◌∙◌, subst, arith, append_assoc, append-nil, length-append}
use Rattle.std.proofs.lemmas.List.{take-append-le}
use Rattle.std.specs.Io.KnownBytes.{Appends}
use Rattle.std.proofs.KnownBytes.{Appends-trans}
use Rattle.sk_model.specs.Causes.{AppendsFront, AppendsPart}
use Rattle.sk_model.specs.Missing.{Begins}
use Rattle.sk_report.specs.Parts.{AppendsPartAfter}

-- a part of a text is one of a longer text
pub part_longer : (a b : Option (List ℕ)) (xs ys : List ℕ) → AppendsPart a b xs → AppendsPart a b (xs ++ ys)
part_longer a b xs ys part =
    (part.0, omega (arith, part.1, length-append xs ys), subst (Appends a b) (sym (take-append-le part.0 xs ys (omega (arith, part.1)))) part.2)

take_behind : (xs ys : List ℕ) (n : ℕ) → take (length xs + n) (xs ++ ys) ≡ xs ++ take n ys
take_behind [] ys n =
    let none : length {A = ℕ} [] + n ≡ n = omega arith in
    ap (λ (m : ℕ). take m ys) none
take_behind (x ∷ xs) ys n =
    let more : suc (length xs) + n ≡ suc (length xs + n) = omega arith in
    ap (λ (m : ℕ). take m (x ∷ (xs ++ ys))) more ∙ ap (λ (l : List ℕ). x ∷ l) (take_behind xs ys n)

-- a text, and then a front of another
pub front_behind : (a b c : Option (List ℕ)) (xs ys : List ℕ) → Appends a b xs → AppendsFront b c ys → AppendsFront a c (xs ++ ys)
front_behind a b c xs ys whole front = (
  length xs + front.0,
  omega (arith, front.1, length-append xs ys),
  subst (Appends a c) (sym (take_behind xs ys front.0)) (Appends-trans a b c xs (take front.0 ys) whole front.2),
)

-- a text, and then a part of another
pub part_behind : (a b c : Option (List ℕ)) (xs ys : List ℕ) → Appends a b xs → AppendsPart b c ys → AppendsPart a c (xs ++ ys)
part_behind a b c xs ys whole part = (
  length xs + part.0,
  omega (arith, part.1, length-append xs ys),
  subst (Appends a c) (sym (take_behind xs ys part.0)) (Appends-trans a b c xs (take part.0 ys) whole part.2),
)

-- a text that was written whole, which has this prefix, and then a part of another
pub part_on : (a b c : Option (List ℕ)) (before xs ys : List ℕ) → Begins before xs → Appends a b xs → AppendsPart b c ys → AppendsPartAfter before a c (xs ++ ys)
part_on a b c before xs ys begins whole part = record {
  size = length xs + part.0;
  begins = (begins.0 ++ ys, ap (λ (l : List ℕ). l ++ ys) begins.1 ∙ append_assoc before begins.0 ys);
  least = omega (arith, ap length begins.1, length-append before begins.0);
  most = omega (arith, part.1, length-append xs ys);
  written = subst (Appends a c) (sym (take_behind xs ys part.0)) (Appends-trans a b c xs (take part.0 ys) whole part.2);
}

-- a text that was written whole, and then a part of another
pub part_of_next : (a b c : Option (List ℕ)) (xs ys : List ℕ) → Appends a b xs → AppendsPart b c ys → AppendsPartAfter xs a c (xs ++ ys)
part_of_next a b c xs ys whole part = part_on a b c xs xs ys ([], sym (append-nil xs)) whole part

-- a part of a text alone
pub part_alone : (a b : Option (List ℕ)) (xs : List ℕ) → AppendsPart a b xs → AppendsPartAfter [] a b xs
part_alone a b xs part = record { size = part.0; begins = (xs, refl); least = omega arith; most = part.1; written = part.2 }

-- what was written on the way to it may be forgotten
pub part_at_all : (before : List ℕ) (a b : Option (List ℕ)) (xs : List ℕ) → AppendsPartAfter before a b xs → AppendsPart a b xs
part_at_all before a b xs part = (part.size, part.most, part.written)

-- all of a shorter text was, too
pub part_after_less : (less before : List ℕ) (a b : Option (List ℕ)) (xs : List ℕ) → Begins less before → AppendsPartAfter before a b xs → AppendsPartAfter less a b xs
part_after_less less before a b xs begins part = record {
  size = part.size;
  begins = (begins.0 ++ part.begins.0, part.begins.1 ∙ ap (λ (l : List ℕ). l ++ part.begins.0) begins.1 ∙ append_assoc less begins.0 part.begins.0);
  least = omega (arith, part.least, ap length begins.1, length-append less begins.0);
  most = part.most;
  written = part.written;
}

-- a text that was written whole, and then a part of another with its own prefix
pub part_after_behind : (a b c : Option (List ℕ)) (xs before ys : List ℕ) → Appends a b xs → AppendsPartAfter before b c ys → AppendsPartAfter (xs ++ before) a c (xs ++ ys)
part_after_behind a b c xs before ys whole part = record {
  size = length xs + part.size;
  begins = (part.begins.0, ap (λ (l : List ℕ). xs ++ l) part.begins.1 ∙ sym (append_assoc xs before part.begins.0));
  least = omega (arith, part.least, length-append xs before);
  most = omega (arith, part.most, length-append xs ys);
  written = subst (Appends a c) (sym (take_behind xs ys part.size)) (Appends-trans a b c xs (take part.size ys) whole part.written);
}

-- what holds anyhow holds of an error
pub on_err : {T E : Type 0} (r : Result T E) (P : Type 0) → P → OnErr r P
on_err (Ok x) P holds = tt
on_err (Err e) P holds = holds

pub on_err_then : {T E : Type 0} (r : Result T E) (P Q : Type 0) → (P → Q) → OnErr r P → OnErr r Q
on_err_then (Ok x) P Q follows holds = tt
on_err_then (Err e) P Q follows holds = follows holds
