-- Names by their ends, and where a name is sought first.
use Rattle.std.proofs.Common.{◌≡◌, ⊎_elim, ℕ, ◌+◌, ◌-◌, ◌<◌, ◌≤◌, ◌^◌, List, [], ◌++◌, length, get_or, take, drop, replicate, Some, slice_get, All, sym, ap, subst, ◌∙◌, arith, take-append-drop}
use Rattle.std.proofs.lemmas.Bool.{cases_lt}
use Rattle.std.proofs.lemmas.List.{drop-drop, length-replicate}
use Rattle.std.proofs.lemmas.List.Elements.{All-replicate}
use Rattle.std.proofs.lemmas.Option.{slice_get-get_or, get_or_from_slice_get}
use Rattle.sk_tenant.specs.declared.ends.Ends.{Ends}
use Rattle.sk_tenant.specs.declared.guesses.Guess.{Guess}
use Rattle.sk_tenant.specs.Names.{HasNoSpace}
use Rattle.sk_tenant.specs.Guesses.{most_marks, AreEndsOf, IsPlaceOf, AreGuesses}

-- ---- names with the same ends

-- names of 8 to 16 bytes with the same start and the same end
same_ends : (xs ys : List ℕ) → 8 ≤ length xs → length xs ≤ 16 → take 8 xs ≡ take 8 ys → drop (length xs - 8) xs ≡ drop (length xs - 8) ys → xs ≡ ys
same_ends xs ys least most first last =
    let far : (length xs - 8) + (16 - length xs) ≡ 8 = omega (arith, least, most) in
    let rest : (l : List ℕ) → drop (16 - length xs) (drop (length xs - 8) l) ≡ drop 8 l = λ l. drop-drop (16 - length xs) (length xs - 8) l ∙ ap (λ (n : ℕ). drop n l) far in
    let tails : drop 8 xs ≡ drop 8 ys = sym (rest xs) ∙ ap (drop (16 - length xs)) last ∙ rest ys in
    sym (take-append-drop 8 xs) ∙ ap (λ (l : List ℕ). l ++ drop 8 xs) first ∙ ap (λ (l : List ℕ). take 8 ys ++ l) tails ∙ take-append-drop 8 ys

-- names with the same ends, one of them of at most 16 bytes
same_by_ends : (xs ys : List ℕ) (e f : Ends) → AreEndsOf xs e → AreEndsOf ys f → e.first ≡ f.first → e.last ≡ f.last → e.len ≡ f.len → length ys ≤ 16 → xs ≡ ys
same_by_ends xs ys e f a b first last len most = ⊎_elim
    (λ (few : length xs < 8). sym (a.whole few) ∙ ap (λ (n : ℕ). take n e.first) same ∙ ap (take (length ys)) first ∙ b.whole (omega (arith, few, same)))
    (λ (many : 8 ≤ length xs). same_ends xs ys many (omega (arith, most, same))
    (sym (a.first many) ∙ first ∙ b.first (omega (arith, many, same)))
    (sym (a.last many) ∙ last ∙ b.last (omega (arith, many, same)) ∙ ap (λ (n : ℕ). drop (n - 8) ys) (sym same)))
    (cases_lt (length xs) 8)
  where
    same : length xs ≡ length ys
    same = sym a.len ∙ len ∙ b.len

-- ---- guesses

-- none is known
pub none_guessed : (names : List (List ℕ)) (by_mark : List Guess) (unknown : Guess) → by_mark ≡ replicate most_marks unknown → 2 ^ 63 ≤ unknown.ends.len → AreGuesses names by_mark
none_guessed names by_mark unknown are long = record {
  count = ap length are ∙ length-replicate most_marks unknown;
  each = subst (All Known) (sym are) (All-replicate Known most_marks unknown (λ short. absurd (omega (arith, short, long))));
}
  where
    Known : Guess → Type 0
    Known guess = guess.ends.len < 2 ^ 63 → IsPlaceOf names guess

-- a name with the ends of a guess stands at its place
module _ (names : List (List ℕ)) (by_mark : List Guess) (mark : ℕ) (guess : Guess) (name : List ℕ) (ends : Ends) (are : AreGuesses names by_mark) (within : mark < most_marks) (is : guess ≡ get_or by_mark mark guess) (own : AreEndsOf name ends)
    (first : guess.ends.first ≡ ends.first) (last : guess.ends.last ≡ ends.last) (len : guess.ends.len ≡ ends.len) (size : length name < 2 ^ 63) (long : 16 < length name → slice_get names guess.place ≡ Some name)
  where
    place : IsPlaceOf names guess
    place =
        let known : guess.ends.len < 2 ^ 63 → IsPlaceOf names guess =
        subst (λ (g : Guess). g.ends.len < 2 ^ 63 → IsPlaceOf names g) (sym is) (are.each mark guess (omega (arith, within, are.count))) in
        known (omega (arith, len, own.len, size))

    same : get_or names guess.place [] ≡ name
    same = ⊎_elim
        (λ (more : 16 < length name). get_or_from_slice_get names guess.place name [] (long more))
        (λ (short : length name ≤ 16). same_by_ends (get_or names guess.place []) name guess.ends ends place.ends own first last len short)
        (cases_lt 16 (length name))

    pub guessed : slice_get names guess.place ≡ Some name
    guessed = slice_get-get_or names guess.place [] place.within ∙ ap Some same

    pub is_plain : HasNoSpace name
    is_plain = subst HasNoSpace same place.plain
