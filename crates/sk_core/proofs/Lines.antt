-- What the fields of a line read as.
use Rattle.std.proofs.Common.{◌≡◌, ◌⊎◌, inl, inr, ⊎_elim, ℕ, ◌+◌, ◌-◌, ◌<◌, Bool, true, false, cond, eqb, ltb, not, ◌&&◌, List, [], ◌∷◌, length, take, drop, Option, Some, None, arith, refl, sym, ap, ◌∙◌, codes}
use Rattle.std.specs.Prelude.{option_and_then, nat_le, decimal}
use Rattle.std.specs.List.{list_all, position_or_len}
use Rattle.std.specs.Char.{is_ascii_digit}
use Rattle.std.specs.Str.{bytes_eq}
use mathlib.Core.Logic.{dite}
use native.Mathlib.Decide.{dec_le}
use borrow.Author.Tests.{eqb-true}
use Rattle.sk_model.specs.Numbers.{number_of, value_of}
use Rattle.sk_core.specs.Texts.{fields_of, onto_first, number_from, event_of_two, event_of_fields, event_of, machine_of_fields, machine_line_of, vacant_of_fields, vacant_line_of}
use Rattle.sk_core.specs.declared.event.Event.{Event}
use Rattle.sk_core.proofs.Fields.{is_space, cut_some, cut_none}
use Rattle.sk_model.specs.Width.{item_end}
use Rattle.sk_model.specs.Limits.{least_k, most_k, most_size, most_updaters}

-- a text with a space is no number
spaced_digits : (text : List ℕ) → position_or_len is_space text < length text → list_all is_ascii_digit text ≡ false
spaced_digits [] inside = absurd (omega arith)
spaced_digits (x ∷ xs) inside = by_byte (eqb x 32) refl (spaced_digits xs) inside
  where
    and_false : (b : Bool) → (b && false) ≡ false
    and_false true = refl
    and_false false = refl

    by_byte : (b : Bool) → eqb x 32 ≡ b → (position_or_len is_space xs < length xs → list_all is_ascii_digit xs ≡ false) → cond (not b) (1 + position_or_len is_space xs) 0 < length (x ∷ xs) → (is_ascii_digit x && list_all is_ascii_digit xs) ≡ false
    by_byte true is more inside = ap (λ y. is_ascii_digit y && list_all is_ascii_digit xs) (eqb-true x 32 is)
    by_byte false is more inside = ap (λ b. is_ascii_digit x && b) (more (omega arith)) ∙ and_false (is_ascii_digit x)

spaced_number : (text : List ℕ) → position_or_len is_space text < length text → number_of item_end text ≡ None
unfolding number_of
spaced_number text inside = ap (λ b. cond (b && ltb 0 (length text) && nat_le (length text) (length (decimal (item_end - 1))) && ltb (value_of text) item_end) (Some (value_of text)) None) (spaced_digits text inside)

-- there is always a field
has_field : (text : List ℕ) → (field : List ℕ) × (more : List (List ℕ)) × (fields_of text ≡ field ∷ more)
unfolding fields_of
has_field [] = ([], [], refl)
has_field (x ∷ xs) = by_byte (eqb x 32) (has_field xs)
  where
    by_byte : (b : Bool) → (field : List ℕ) × (more : List (List ℕ)) × (fields_of xs ≡ field ∷ more) → (field : List ℕ) × (more : List (List ℕ)) × (cond b ([] ∷ fields_of xs) (onto_first x (fields_of xs)) ≡ field ∷ more)
    by_byte true f = ([], fields_of xs, refl)
    by_byte false f = (x ∷ f.0, f.1, ap (onto_first x) f.2)

-- a text is one field, or more of them and then no number
abbrev Tail : List ℕ → Type 0
Tail text = (fields_of text ≡ text ∷ []) ⊎ ((a : List ℕ) × (b : List ℕ) × (more : List (List ℕ)) × (fields_of text ≡ a ∷ b ∷ more) × (number_of item_end text ≡ None))

tail_of : (text : List ℕ) → Tail text
tail_of text = dite (dec_le (length text) (position_or_len is_space text))
    (λ le. inl (cut_none text le))
    (λ gt. let inside : position_or_len is_space text < length text = omega arith in let p = position_or_len is_space text in let f = has_field (drop (p + 1) text) in
    inr (take p text, f.0, f.1, cut_some text inside ∙ ap (λ l. take p text ∷ l) f.2, spaced_number text inside))

and_none : {A B : Type 0} (o : Option A) → option_and_then (λ (a : A). let none : Option B = None in none) o ≡ None
and_none None = refl
and_none (Some a) = refl

-- ---- two numbers

abbrev two_numbers : List ℕ → List ℕ → List ℕ → Option Event
two_numbers word n m = option_and_then (λ a. option_and_then (event_of_two word a) (number_of item_end m)) (number_of item_end n)

pub event_of_three : (line word rest n m : List ℕ) → fields_of line ≡ word ∷ fields_of rest → fields_of rest ≡ n ∷ fields_of m → event_of line ≡ two_numbers word n m
event_of_three line word rest n m first second =
    ap event_of_fields (first ∙ ap (λ l. word ∷ l) second) ∙ ⊎_elim
    (λ one. ap (λ l. event_of_fields (word ∷ n ∷ l)) one)
    (λ more. ap (λ l. event_of_fields (word ∷ n ∷ l)) more.3 ∙ sym (ap (λ o. option_and_then (λ a. option_and_then (event_of_two word a) o) (number_of item_end n)) more.4 ∙ and_none (number_of item_end n)))
    (tail_of m)

-- ---- the first line

abbrev vacant_numbers : List ℕ → List ℕ → Option (ℕ × ℕ)
vacant_numbers k n = option_and_then (λ k. option_and_then (λ n. Some (k, n)) (number_from 1 most_updaters n)) (number_from least_k most_k k)

pub vacant_of_line : (line word rest k n : List ℕ) → fields_of line ≡ word ∷ fields_of rest → fields_of rest ≡ k ∷ fields_of n → vacant_line_of line ≡ cond (bytes_eq word (codes "vacant")) (vacant_numbers k n) None
vacant_of_line line word rest k n first second =
    ap vacant_of_fields (first ∙ ap (λ l. word ∷ l) second) ∙ ⊎_elim
    (λ one. ap (λ l. vacant_of_fields (word ∷ k ∷ l)) one)
    (λ more. ap (λ l. vacant_of_fields (word ∷ k ∷ l)) more.3 ∙ sym (ap (λ o. cond (bytes_eq word (codes "vacant")) (option_and_then (λ k. option_and_then (λ n. Some (k, n)) (option_and_then (λ n. cond (nat_le 1 n && nat_le n 64) (Some n) None) o)) (number_from least_k most_k k)) None) more.4
    ∙ ap (λ o. cond (bytes_eq word (codes "vacant")) o None) (and_none (number_from least_k most_k k)) ∙ same (bytes_eq word (codes "vacant"))))
    (tail_of n)
  where
    same : {A : Type 0} (b : Bool) → cond b (let none : Option A = None in none) None ≡ None
    same true = refl
    same false = refl

abbrev machine_numbers : List ℕ → List ℕ → List ℕ → Option (ℕ × ℕ × ℕ)
machine_numbers k b n = option_and_then (λ k. option_and_then (λ b. option_and_then (λ n. Some (k, b, n)) (number_from 1 most_updaters n)) (number_from 1 most_size b)) (number_from least_k most_k k)

pub machine_of_line : (line word rest k rest' b n : List ℕ) → fields_of line ≡ word ∷ fields_of rest → fields_of rest ≡ k ∷ fields_of rest' → fields_of rest' ≡ b ∷ fields_of n
    → machine_line_of line ≡ cond (bytes_eq word (codes "machine")) (machine_numbers k b n) None
machine_of_line line word rest k rest' b n first second third =
    ap machine_of_fields (first ∙ ap (λ l. word ∷ l) (second ∙ ap (λ l. k ∷ l) third)) ∙ ⊎_elim
    (λ one. ap (λ l. machine_of_fields (word ∷ k ∷ b ∷ l)) one)
    (λ more. ap (λ l. machine_of_fields (word ∷ k ∷ b ∷ l)) more.3 ∙ sym (ap (λ o. cond (bytes_eq word (codes "machine")) (option_and_then (λ k. option_and_then (λ b. option_and_then (λ n. Some (k, b, n)) (option_and_then (λ n. cond (nat_le 1 n && nat_le n 64) (Some n) None) o)) (number_from 1 most_size b)) (number_from least_k most_k k)) None) more.4
    ∙ ap (λ o. cond (bytes_eq word (codes "machine")) o None) (none_of (number_from least_k most_k k)) ∙ same (bytes_eq word (codes "machine"))))
    (tail_of n)
  where
    same : {A : Type 0} (b : Bool) → cond b (let none : Option A = None in none) None ≡ None
    same true = refl
    same false = refl

    none_of : (o : Option ℕ) → option_and_then (λ k. option_and_then (λ b. let none : Option (ℕ × ℕ × ℕ) = None in none) (number_from 1 most_size b)) o ≡ None
    none_of None = refl
    none_of (Some k) = and_none (number_from 1 most_size b)
