-- Units that come one after another, as windows.
use Rattle.std.proofs.Common.{◌≡◌, ⊎_elim, ℕ, ◌≤◌, ◌||◌, nat_le, true, false, List, [], ◌∷◌, ◌++◌, length, take, sym, ap, refl, ◌∙◌, arith, append-nil, append_assoc, length-append}
use Rattle.std.proofs.lemmas.Bool.{cases_lt, ne_eqb}
use Rattle.std.proofs.lemmas.Grind.{flat_map-append}
use Rattle.std.proofs.lemmas.List.{take_all, take-append-le}
use Rattle.std.proofs.lemmas.List.Elements.{All-nil, All-push}
use Rattle.sk_fill.specs.Windows.{full_bytes, fills, FillsNone, IsFullWindow, AreWindows, all_lines}

-- no lines fill no window
no_lines_fill : (most : ℕ) → 1 ≤ most → fills most [] ≡ false
no_lines_fill most least = ap (λ b. b || nat_le full_bytes 0) (ne_eqb 0 most (λ same. let none : ⊥ = omega arith in absurd none))

pub none_unfilled : (most : ℕ) → 1 ≤ most → FillsNone most []
none_unfilled most least = λ n within. let all : take n [] ≡ [] = take_all {A = List ℕ} n [] (omega arith) in ap (fills most) all ∙ no_lines_fill most least

-- a beginning of lines and one more is one of the lines
shorter : (most : ℕ) (lines : List (List ℕ)) (line : List ℕ) (n : ℕ) → FillsNone most lines → n ≤ length lines → fills most (take n (lines ++ line ∷ [])) ≡ false
shorter most lines line n unfilled within = ap (fills most) (take-append-le n lines (line ∷ []) within) ∙ unfilled n within

pub one_unfilled : (most : ℕ) (lines : List (List ℕ)) (line : List ℕ) → FillsNone most lines → fills most (lines ++ line ∷ []) ≡ false → FillsNone most (lines ++ line ∷ [])
one_unfilled most lines line unfilled still = λ n within. ⊎_elim
    (λ some. let inside : n ≤ length lines = omega (arith, length-append lines (line ∷ [])) in shorter most lines line n unfilled inside)
    (λ all. let whole : length (lines ++ line ∷ []) ≤ n = omega (arith, length-append lines (line ∷ [])) in ap (fills most) (take_all n (lines ++ line ∷ []) whole) ∙ still)
    (cases_lt n (length (lines ++ line ∷ [])))

pub one_full : (most : ℕ) (lines : List (List ℕ)) (line : List ℕ) → FillsNone most lines → fills most (lines ++ line ∷ []) ≡ true → IsFullWindow most (lines ++ line ∷ [])
one_full most lines line unfilled full = record {
  full = full;
  first = λ n within. let inside : n ≤ length lines = omega (arith, length-append lines (line ∷ [])) in shorter most lines line n unfilled inside;
}

pub no_units : (most : ℕ) → 1 ≤ most → AreWindows most [] [] []
no_units most least = record { joined = refl; full = All-nil (IsFullWindow most); unfilled = none_unfilled most least }

-- a unit that fills no window goes to the rest
pub unit_left : (most : ℕ) (units : List (List ℕ)) (unit : List ℕ) (windows : List (List (List ℕ))) (rest : List (List ℕ)) → AreWindows most units windows rest → fills most (rest ++ unit ∷ []) ≡ false → AreWindows most (units ++ unit ∷ []) windows (rest ++ unit ∷ [])
unit_left most units unit windows rest cut still = record {
  joined = ap (λ l. l ++ unit ∷ []) cut.joined ∙ append_assoc (all_lines windows) rest (unit ∷ []);
  full = cut.full;
  unfilled = one_unfilled most rest unit cut.unfilled still;
}

-- the lines of windows and one more
pub all_lines_more : (windows : List (List (List ℕ))) (lines : List (List ℕ)) → all_lines (windows ++ lines ∷ []) ≡ all_lines windows ++ lines
all_lines_more windows lines = flat_map-append (λ l. l) windows (lines ∷ []) ∙ ap (λ l. all_lines windows ++ l) (append-nil lines)

-- one that fills a window
pub unit_fills : (most : ℕ) (units : List (List ℕ)) (unit : List ℕ) (windows : List (List (List ℕ))) (rest : List (List ℕ)) → 1 ≤ most → AreWindows most units windows rest → fills most (rest ++ unit ∷ []) ≡ true → AreWindows most (units ++ unit ∷ []) (windows ++ (rest ++ unit ∷ []) ∷ []) []
unit_fills most units unit windows rest least cut full = record {
  joined = ap (λ l. l ++ unit ∷ []) cut.joined ∙ append_assoc (all_lines windows) rest (unit ∷ []) ∙ sym (append-nil (all_lines (windows ++ (rest ++ unit ∷ []) ∷ [])) ∙ all_lines_more windows (rest ++ unit ∷ []));
  full = All-push (IsFullWindow most) windows (rest ++ unit ∷ []) cut.full (one_full most rest unit cut.unfilled full);
  unfilled = none_unfilled most least;
}
