-- Laws of the estimate.
use Rattle.std.proofs.Common.{◌≡◌, ℕ, zero, suc, ◌<◌, ◌≤◌, ◌==◌, true, cond, inl, inr, min, List, [], ◌∷◌, ◌++◌, length, refl, sym, ap, arith, All, length-append, IsPermutation}
use Rattle.std.proofs.lemmas.Bool.{eq-eqb, eqb-true, cases_Bool, cases_lt}
use Rattle.std.proofs.lemmas.List.Elements.{All-head, All-tail}
use Rattle.std.proofs.lemmas.List.Sorted.{sum_by-IsPermutation, length_permutation}
use Rattle.std.proofs.lemmas.List.Sums.{count_by-le-length, sum_by-le-sum_by, sum_by-append, sum_by-cons}
use Rattle.sk_cms.specs.Estimate.{cell_of, cell_count, least_of, times}

-- whether a number is another, and whether its cell is the other's, as numbers
abbrev pub is_item : ℕ → ℕ → ℕ
is_item x y = cond (y == x) 1 0

abbrev pub is_in_cell : ℕ → ℕ → ℕ → ℕ → ℕ
is_in_cell width r c y = cond (cell_of width r y == c) 1 0

pub least-zero : (width x : ℕ) (items : List ℕ) → least_of zero width x items ≡ length items
unfolding least_of
least-zero width x items = refl

pub least-suc : (r width x : ℕ) (items : List ℕ) → least_of (suc r) width x items ≡ min (least_of r width x items) (cell_count width r (cell_of width r x) items)
unfolding least_of
least-suc r width x items = refl

pub least_within : (rows width r x : ℕ) (items : List ℕ) → r < rows → least_of rows width x items ≤ cell_count width r (cell_of width r x) items
least_within zero width r x items below = absurd (omega arith)
least_within (suc rows) width r x items below =
    elim (cases_lt r rows) [
      | inl earlier ↦ omega (arith, least-suc rows width x items, least_within rows width r x items earlier)
      | inr last ↦
          let is : r ≡ rows = omega arith in
          omega (arith, least-suc rows width x items, ap (λ (k : ℕ). cell_count width k (cell_of width k x) items) is)
    ]

pub least_most : (rows width x : ℕ) (items : List ℕ) → least_of rows width x items ≤ length items
least_most zero width x items = omega (arith, least-zero width x items)
least_most (suc rows) width x items = omega (arith, least-suc rows width x items, least_most rows width x items)

-- the estimate is one of the counts
abbrev pub IsOfARow : ℕ → ℕ → ℕ → List ℕ → Type 0
IsOfARow rows width x items = (r : ℕ) × (r < rows) × (least_of rows width x items ≡ cell_count width r (cell_of width r x) items)

one_row_more : (rows width x : ℕ) (items : List ℕ) → IsOfARow rows width x items → IsOfARow (suc rows) width x items
one_row_more rows width x items known =
    let count = cell_count width rows (cell_of width rows x) items in
    elim (cases_lt (least_of rows width x items) count) [
      | inl less ↦ (known.0, omega (arith, known.1), omega (arith, least-suc rows width x items, known.2))
      | inr more ↦ (rows, omega arith, omega (arith, least-suc rows width x items))
    ]

pub least_of_a_row : (rows width x : ℕ) (items : List ℕ) → 1 ≤ rows → IsOfARow rows width x items
least_of_a_row zero width x items some = absurd (omega arith)
least_of_a_row (suc zero) width x items some =
    (0, omega arith, omega (arith, least-suc zero width x items, least-zero width x items, count_by-le-length (λ y. cell_of width 0 y == cell_of width 0 x) items))
least_of_a_row (suc (suc rows)) width x items some =
    one_row_more (suc rows) width x items (least_of_a_row (suc rows) width x items (omega arith))

-- an item lies in its own cell
item_in_cell : (width r x y : ℕ) → is_item x y ≤ is_in_cell width r (cell_of width r x) y
item_in_cell width r x y =
    elim (cases_Bool (y == x)) [
      | inl same ↦
          let cells : (cell_of width r y == cell_of width r x) ≡ true = eq-eqb (cell_of width r y) (cell_of width r x) (ap (λ (z : ℕ). cell_of width r z) (eqb-true y x same)) in
          rw (same, cells) (omega arith)
      | inr other ↦ rw other (omega arith)
    ]

pub times_in_row : (width r x : ℕ) (items : List ℕ) → times x items ≤ cell_count width r (cell_of width r x) items
times_in_row width r x items = sum_by-le-sum_by (λ y. is_item x y) (λ y. is_in_cell width r (cell_of width r x) y) items (λ y. item_in_cell width r x y)

pub times_least : (rows width x : ℕ) (items : List ℕ) → times x items ≤ least_of rows width x items
times_least zero width x items = omega (arith, least-zero width x items, count_by-le-length (λ y. y == x) items)
times_least (suc rows) width x items =
    omega (arith, least-suc rows width x items, times_least rows width x items, times_in_row width rows x items)

-- no other item of the list has the cell of this one
abbrev pub Alone : ℕ → ℕ → ℕ → List ℕ → Type 0
Alone width r x items = All (λ y. cell_of width r y ≡ cell_of width r x → y ≡ x) items

alone_in_cell : (width r x y : ℕ) → (cell_of width r y ≡ cell_of width r x → y ≡ x) → is_in_cell width r (cell_of width r x) y ≡ is_item x y
alone_in_cell width r x y alone =
    elim (cases_Bool (cell_of width r y == cell_of width r x)) [
      | inl same ↦ let item : (y == x) ≡ true = eq-eqb y x (alone (eqb-true (cell_of width r y) (cell_of width r x) same)) in rw (same, item) refl
      | inr other ↦ let none : is_item x y ≤ 0 = rw other at (item_in_cell width r x y) in rw other (omega arith)
    ]

pub alone_in_row : (width r x : ℕ) (items : List ℕ) → Alone width r x items → cell_count width r (cell_of width r x) items ≡ times x items
alone_in_row width r x [] alone = refl
alone_in_row width r x (y ∷ items) alone =
    let P : ℕ → Type 0 = λ z. cell_of width r z ≡ cell_of width r x → z ≡ x in
    omega (
      arith,
      sum_by-cons (λ z. is_in_cell width r (cell_of width r x) z) y items,
      sum_by-cons (λ z. is_item x z) y items,
      alone_in_cell width r x y (All-head P y items alone),
      alone_in_row width r x items (All-tail P y items alone),
    )

pub exact_if_alone : (rows width r x : ℕ) (items : List ℕ) → r < rows → Alone width r x items → least_of rows width x items ≡ times x items
exact_if_alone rows width r x items below alone =
    omega (arith, least_within rows width r x items below, alone_in_row width r x items alone, times_least rows width x items)

pub least_grows : (rows width x : ℕ) (items more : List ℕ) → least_of rows width x items ≤ least_of rows width x (items ++ more)
least_grows zero width x items more =
    omega (arith, least-zero width x items, least-zero width x (items ++ more), length-append items more)
least_grows (suc rows) width x items more =
    omega (
      arith,
      least-suc rows width x items,
      least-suc rows width x (items ++ more),
      least_grows rows width x items more,
      sum_by-append (λ y. is_in_cell width rows (cell_of width rows x) y) items more,
    )

pub times-IsPermutation : (x : ℕ) (items others : List ℕ) → IsPermutation items others → times x items ≡ times x others
times-IsPermutation x items others same = sym (sum_by-IsPermutation (λ y. is_item x y) items others same)

pub least_of-IsPermutation : (rows width x : ℕ) (items others : List ℕ) → IsPermutation items others → least_of rows width x items ≡ least_of rows width x others
least_of-IsPermutation zero width x items others same =
    omega (arith, least-zero width x items, least-zero width x others, length_permutation items others same)
least_of-IsPermutation (suc rows) width x items others same =
    omega (
      arith,
      least-suc rows width x items,
      least-suc rows width x others,
      least_of-IsPermutation rows width x items others same,
      sum_by-IsPermutation (λ y. is_in_cell width rows (cell_of width rows x) y) items others same,
    )
