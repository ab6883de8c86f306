-- Lines of a run that have one length.
use Rattle.std.proofs.Common.{◌≡◌, ℕ, zero, suc, ◌+◌, ◌-◌, ◌*◌, ◌/◌, ◌<◌, ◌≤◌, ◌==◌, Some, ⊎_elim, List, ◌∷◌, ◌++◌, length, take, drop, map, slice_index, slice_range, slice_get, sym, ap, ◌∙◌, subst, arith, append_assoc, length-append, length-drop, take-append-drop, drop-drop}
use Rattle.std.specs.List.{slice_split}
use Rattle.std.specs.Str.Lines.{strip_carriage_return}
use Rattle.std.proofs.Math.Nat.{mul-le-mul_right, mul-div_cancel_left}
use Rattle.std.proofs.Math.Seq.{drop-cons}
use Rattle.std.proofs.lemmas.List.{get_or-drop, length-map}
use Rattle.std.proofs.lemmas.List.Splits.{length-slice_split}
use Rattle.sk_model.specs.Lines.{lines_of}
use Rattle.sk_model.proofs.Lines.{Cut, HasNoLf, cut, first_line, lines_at_end}
use Rattle.sk_lines.specs.Runs.{AreEven, EndEach}

pub line_inside : (n i m : ℕ) → i < n → i * m + m ≤ n * m
line_inside n i m less = let most : suc i * m ≤ n * m = mul-le-mul_right m less in omega (arith, most)

module _ (len : ℕ) where
  -- a run as its first line and the others
  split_line : (run : List ℕ) → len < length run → slice_index run len ≡ 10 → run ≡ take len run ++ 10 ∷ drop (suc len) run
  split_line run inside lf = sym (take-append-drop len run) ∙ ap (λ (l : List ℕ). take len run ++ l) (drop-cons run len 0 inside ∙ ap (λ (x : ℕ). x ∷ drop (suc len) run) lf)

  ends_after : (n : ℕ) (run : List ℕ) → EndEach (suc n) len run → EndEach n len (drop (suc len) run)
  ends_after n run ends i less =
      let place : suc len + (i * (len + 1) + len) ≡ suc i * (len + 1) + len = omega arith in
      get_or-drop (suc len) run (i * (len + 1) + len) 0 ∙ ap (slice_index run) place ∙ ends (suc i) (omega (arith, less))

  module _ (n : ℕ) (run : List ℕ) (bytes : length run ≡ suc n * (len + 1)) (ends : EndEach (suc n) len run) where
    first_end : slice_index run len ≡ 10
    first_end = let place : zero * (len + 1) + len ≡ len = omega arith in ap (slice_index run) (sym place) ∙ ends zero (omega arith)

    pub is_split : run ≡ take len run ++ 10 ∷ drop (suc len) run
    is_split = split_line run (omega (arith, bytes)) first_end

    pub bytes_after : length (drop (suc len) run) ≡ n * (len + 1)
    bytes_after = omega (arith, bytes, length-drop (suc len) run)

  -- a line comes before what follows an LF, at least
  one_before : (front rest : List ℕ) → length (lines_of rest) < length (lines_of (front ++ 10 ∷ rest))
  one_before front rest =
      let parts : List (List ℕ) = slice_split (λ b. b == 10) front in
      omega (arith, ap length (lines_at_end front rest), length-append (map strip_carriage_return parts) (lines_of rest), length-map parts strip_carriage_return, length-slice_split (λ b. b == 10) front)

  -- by the LFs that are known there are as many lines, at least
  pub many : (n : ℕ) (run : List ℕ) → length run ≡ n * (len + 1) → EndEach n len run → n ≤ length (lines_of run)
  many zero run bytes ends = omega arith
  many (suc n) run bytes ends =
      let rest : List ℕ = drop (suc len) run in
      omega (
        arith,
        ap (λ (l : List ℕ). length (lines_of l)) (is_split n run bytes ends),
        one_before (take len run) rest,
        many n rest (bytes_after n run bytes ends) (ends_after n run ends),
      )

  -- so there is no other LF if there are no more lines
  plain_front : (n : ℕ) (front rest : List ℕ) → length (lines_of (front ++ 10 ∷ rest)) ≤ suc n → n ≤ length (lines_of rest) → HasNoLf front
  plain_front n front rest few most =
      let c : Cut front = cut front in
      ⊎_elim
      (λ all. subst HasNoLf (sym all) c.no_lf)
      (λ more.
      let other : front ++ 10 ∷ rest ≡ c.piece ++ 10 ∷ (more.0 ++ 10 ∷ rest) = ap (λ (l : List ℕ). l ++ 10 ∷ rest) more.1 ∙ append_assoc c.piece (10 ∷ more.0) (10 ∷ rest) in
      absurd (omega (arith, few, most, ap (λ (l : List ℕ). length (lines_of l)) other, one_before c.piece (more.0 ++ 10 ∷ rest), one_before more.0 rest)))
      c.follows

  -- where line i lies
  abbrev AreEvenLines : ℕ → List ℕ → Type 0
  AreEvenLines n run = (i : ℕ) → i < n → slice_get (lines_of run) i ≡ Some (strip_carriage_return (slice_range run (i * (len + 1)) (i * (len + 1) + len)))

  module _ (n : ℕ) (run : List ℕ) (bytes : length run ≡ suc n * (len + 1)) (ends : EndEach (suc n) len run) (count : length (lines_of run) ≡ suc n) where
    abbrev front : List ℕ
    front = take len run

    abbrev rest : List ℕ
    rest = drop (suc len) run

    is : run ≡ front ++ 10 ∷ rest
    is = is_split n run bytes ends

    lines : lines_of run ≡ strip_carriage_return front ∷ lines_of rest
    lines =
        let all : length (lines_of (front ++ 10 ∷ rest)) ≡ suc n = ap (λ (l : List ℕ). length (lines_of l)) (sym is) ∙ count in
        ap lines_of is ∙ first_line front rest (plain_front n front rest (omega (arith, all)) (many n rest (bytes_after n run bytes ends) (ends_after n run ends)))

    count_after : length (lines_of rest) ≡ n
    count_after = omega (arith, count, ap length lines)

    line_more : AreEvenLines n rest → AreEvenLines (suc n) run
    line_more others zero less =
        let none : zero * (len + 1) ≡ zero = omega arith in
        let size : (zero + len) - zero ≡ len = omega arith in
        let slice : slice_range run (zero * (len + 1)) (zero * (len + 1) + len) ≡ front = ap (λ (k : ℕ). slice_range run k (k + len)) none ∙ ap (λ (k : ℕ). take k run) size in
        ap (λ (ls : List (List ℕ)). slice_get ls zero) lines ∙ ap (λ (l : List ℕ). Some (strip_carriage_return l)) (sym slice)
    line_more others (suc j) less =
        let from : ℕ = j * (len + 1) in
        let to : ℕ = suc j * (len + 1) in
        let there : suc len + from ≡ to = omega arith in
        let size : (from + len) - from ≡ (to + len) - to = omega arith in
        let slice : slice_range rest from (from + len) ≡ slice_range run to (to + len) =
        ap (λ (k : ℕ). take k (drop from rest)) size ∙ ap (take ((to + len) - to)) (drop-drop from (suc len) run ∙ ap (λ (k : ℕ). drop k run) there) in
        ap (λ (ls : List (List ℕ)). slice_get ls (suc j)) lines ∙ others j (omega (arith, less)) ∙ ap (λ (l : List ℕ). Some (strip_carriage_return l)) slice

  pub even_lines : (n : ℕ) (run : List ℕ) → length run ≡ n * (len + 1) → EndEach n len run → length (lines_of run) ≡ n → AreEvenLines n run
  even_lines zero run bytes ends count = λ i less. absurd (omega (arith, less))
  even_lines (suc n) run bytes ends count =
      line_more n run bytes ends count
      (even_lines n (drop (suc len) run) (bytes_after n run bytes ends) (ends_after n run ends) (count_after n run bytes ends count))

-- ---- how many bytes each has

pub each_is : (count len : ℕ) (run : List ℕ) → 0 < count → AreEven count len run → length run / count ≡ len + 1
each_is count len run some even = ap (λ (n : ℕ). n / count) even.bytes ∙ mul-div_cancel_left (len + 1) some
