-- Updaters of which each has its place for its number.
use Rattle.std.proofs.lemmas.List.FromFn.{length-range_with_len, get_or-range_with_len}
use Rattle.std.proofs.Common.{◌≡◌, ℕ, Contains, suc, ◌+◌, ◌<◌, List, [], ◌∷◌, length, get_or, ap, subst, ◌∙◌, arith, refl}
use Rattle.std.specs.List.{range_with_len}
use Rattle.sk_hub.specs.Updaters.{UpdaterState}
use Rattle.sk_learn.specs.Closing.{AreApart, numbers_of}

pub numbered_apart : (us : List UpdaterState) → ((i : ℕ) (d : UpdaterState) → i < length us → (get_or us i d).number ≡ i) → AreApart us
numbered_apart us numbered = λ i j d before within same.
    let inside : i < length us = omega (arith, before, within) in
    let no : ⊥ = omega (arith, before, numbered i d inside, numbered j d within, same) in no

numbers_from : (from : ℕ) (us : List UpdaterState) → ((i : ℕ) (d : UpdaterState) → i < length us → (get_or us i d).number ≡ from + i) → numbers_of us ≡ range_with_len from (length us)
numbers_from from [] numbered = refl
numbers_from from (u ∷ us) numbered =
    let here : u.number ≡ from = numbered 0 u (omega arith) ∙ omega arith in
    ap (λ n. n ∷ numbers_of us) here ∙ ap (λ l. from ∷ l) (numbers_from (from + 1) us (λ i d within. let next : from + suc i ≡ from + 1 + i = omega arith in numbered (suc i) d (omega (arith, within)) ∙ next))

pub numbered_from_0 : (us : List UpdaterState) → ((i : ℕ) (d : UpdaterState) → i < length us → (get_or us i d).number ≡ i) → numbers_of us ≡ range_with_len 0 (length us)
numbered_from_0 us numbered = numbers_from 0 us (λ i d within. let same : i ≡ 0 + i = omega arith in numbered i d within ∙ same)

pub numbered_below : (us : List UpdaterState) → ((i : ℕ) (d : UpdaterState) → i < length us → (get_or us i d).number ≡ i) → (n : ℕ) → Contains (numbers_of us) n → n < length us
numbered_below us numbered n has =
    let (k, within, is) = subst (λ l. Contains l n) (numbered_from_0 us numbered) has in
    let inside : k < length us = omega (arith, within, length-range_with_len 0 (length us)) in
    omega (arith, inside, is, get_or-range_with_len 0 (length us) k n inside)
