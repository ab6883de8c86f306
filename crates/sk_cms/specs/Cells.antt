-- Where a cell lies in the cells of all rows, and what it has after an item.
use Rattle.std.proofs.Common.{◌≡◌, ◌≢◌, ℕ, zero, suc, inl, inr, ◌+◌, ◌*◌, ◌<◌, ◌≤◌, ◌==◌, true, false, cond, List, length, refl, sym, ap, subst, ◌∙◌, arith, All, mod-lt, get_or, get_or-set_same, get_or-set_other}
use Rattle.std.specs.Prelude.{slice_set}
use Rattle.std.proofs.lemmas.Bool.{eq-eqb, ne_eqb, cases_eq, cases_lt}
use Rattle.std.proofs.lemmas.List.{length-set}
use Rattle.std.proofs.lemmas.List.Elements.{All-get_or, All-from_get_or}
use Rattle.std.proofs.Math.Nat.{mul-le-mul_right}
use Rattle.sk_cms.specs.Counts.{raised}
use Rattle.sk_cms.specs.Estimate.{cell_of}

pub cell_below : (width r x : ℕ) → 1 ≤ width → cell_of width r x < width
unfolding cell_of
cell_below width r x some = mod-lt _ (omega arith)

-- the place of a cell of a row before another row lies before that row
pub place_below : (rows width r c : ℕ) → r < rows → c < width → r * width + c < rows * width
place_below rows width r c below inside = omega (arith, mul-le-mul_right {m = suc r} {n = rows} width (omega arith))

abbrev pub place : ℕ → ℕ → ℕ → ℕ
place width r x = r * width + cell_of width r x

-- an item's place in a row lies before the end of all rows
pub place_within : (rows width r x : ℕ) → 1 ≤ width → r < rows → place width r x < rows * width
place_within rows width r x some below = place_below rows width r (cell_of width r x) below (cell_below width r x some)

pub raised-suc : (r width x : ℕ) (cells : List ℕ) → raised (suc r) width x cells ≡ slice_set (raised r width x cells) (place width r x) (get_or (raised r width x cells) (place width r x) 0 + 1)
unfolding raised
raised-suc r width x cells = refl

pub length-raised : (rows width x : ℕ) (cells : List ℕ) → length (raised rows width x cells) ≡ length cells
unfolding raised
length-raised zero width x cells = refl
length-raised (suc r) width x cells =
    length-set (raised r width x cells) (place width r x) (get_or (raised r width x cells) (place width r x) 0 + 1) ∙ length-raised r width x cells

-- a place in a later row is left alone
pub raised_past : (rows width x : ℕ) (cells : List ℕ) (i : ℕ) → 1 ≤ width → rows * width ≤ i → get_or (raised rows width x cells) i 0 ≡ get_or cells i 0
unfolding raised
raised_past zero width x cells i some past = refl
raised_past (suc r) width x cells i some past =
    let above = raised r width x cells in
    let at = place width r x in
    let other : i ≢ at = omega (arith, cell_below width r x some) in
    get_or-set_other above at i (get_or above at 0 + 1) 0 other ∙ raised_past r width x cells i some (omega arith)

-- in the last row the cell of the item has one more, and no other
raised_last : (rows width x : ℕ) (cells : List ℕ) (c : ℕ) → 1 ≤ width → suc rows * width ≤ length cells → c < width
    → get_or (raised (suc rows) width x cells) (rows * width + c) 0 ≡ get_or cells (rows * width + c) 0 + cond (cell_of width rows x == c) 1 0
raised_last rows width x cells c some long inside =
    let above = raised rows width x cells in
    let at = place width rows x in
    let v = get_or above at 0 + 1 in
    let here : at < length above = omega (arith, length-raised rows width x cells, cell_below width rows x some) in
    let past : get_or above (rows * width + c) 0 ≡ get_or cells (rows * width + c) 0 = raised_past rows width x cells (rows * width + c) some (omega arith) in
    elim (cases_eq (cell_of width rows x) c) [
      | inl same ↦
          let is : at ≡ rows * width + c = omega arith in
          let test : (cell_of width rows x == c) ≡ true = eq-eqb (cell_of width rows x) c same in
          let now : get_or (slice_set above at v) at 0 ≡ v = get_or-set_same above at v 0 here in
          let before : get_or above at 0 ≡ get_or cells (rows * width + c) 0 = ap (λ (i : ℕ). get_or above i 0) is ∙ past in
          rw (raised-suc rows width x cells, test) (ap (λ (i : ℕ). get_or (slice_set above at v) i 0) (sym is) ∙ now ∙ ap (λ (n : ℕ). n + 1) before)
      | inr other ↦
          let apart : rows * width + c ≢ at = λ is. other (omega arith) in
          let test : (cell_of width rows x == c) ≡ false = ne_eqb (cell_of width rows x) c other in
          let now : get_or (slice_set above at v) (rows * width + c) 0 ≡ get_or above (rows * width + c) 0 = get_or-set_other above at (rows * width + c) v 0 apart in
          rw (raised-suc rows width x cells, test) (now ∙ past ∙ omega arith)
    ]

-- in an earlier row nothing changes
raised_earlier : (rows width x : ℕ) (cells : List ℕ) (r c : ℕ) → r < rows → c < width
    → get_or (raised (suc rows) width x cells) (r * width + c) 0 ≡ get_or (raised rows width x cells) (r * width + c) 0
raised_earlier rows width x cells r c earlier inside =
    let above = raised rows width x cells in
    let at = place width rows x in
    let other : r * width + c ≢ at = omega (arith, place_below rows width r c earlier inside) in
    rw (raised-suc rows width x cells) (get_or-set_other above at (r * width + c) (get_or above at 0 + 1) 0 other)

-- in each row the cell of the item has one more, and no other
pub raised_at : (rows width x : ℕ) (cells : List ℕ) (r c : ℕ) → 1 ≤ width → rows * width ≤ length cells → r < rows → c < width
    → get_or (raised rows width x cells) (r * width + c) 0 ≡ get_or cells (r * width + c) 0 + cond (cell_of width r x == c) 1 0
raised_at zero width x cells r c some long below inside = absurd (omega arith)
raised_at (suc rows) width x cells r c some long below inside =
    elim (cases_lt r rows) [
      | inl earlier ↦ raised_earlier rows width x cells r c earlier inside ∙ raised_at rows width x cells r c some (omega arith) earlier inside
      | inr last ↦
          let is : rows ≡ r = omega arith in
          let P : ℕ → Type 0 = λ k. get_or (raised (suc rows) width x cells) (k * width + c) 0 ≡ get_or cells (k * width + c) 0 + cond (cell_of width k x == c) 1 0 in
          subst P is (raised_last rows width x cells c some long inside)
    ]

-- no cell has more than one more
raised_most : (rows width x : ℕ) (cells : List ℕ) (i : ℕ) → 1 ≤ width → rows * width ≤ length cells → get_or (raised rows width x cells) i 0 ≤ get_or cells i 0 + 1
unfolding raised
raised_most zero width x cells i some long = omega arith
raised_most (suc rows) width x cells i some long =
    let above = raised rows width x cells in
    let at = place width rows x in
    let v = get_or above at 0 + 1 in
    let here : at < length above = omega (arith, length-raised rows width x cells, cell_below width rows x some) in
    elim (cases_eq i at) [
      | inl same ↦
          let now : get_or (slice_set above at v) i 0 ≡ v = ap (λ (k : ℕ). get_or (slice_set above at v) k 0) same ∙ get_or-set_same above at v 0 here in
          let before : get_or above at 0 ≡ get_or cells i 0 = raised_past rows width x cells at some (omega arith) ∙ ap (λ (k : ℕ). get_or cells k 0) (sym same) in
          omega (arith, now, before)
      | inr other ↦ omega (arith, get_or-set_other above at i v 0 other, raised_most rows width x cells i some (omega arith))
    ]

-- cells that are small stay so
pub raised_small : (rows width x : ℕ) (cells : List ℕ) (most : ℕ) → 1 ≤ width → rows * width ≤ length cells → All (λ cell. cell ≤ most) cells → All (λ cell. cell ≤ most + 1) (raised rows width x cells)
raised_small rows width x cells most some long small =
    All-from_get_or (λ cell. cell ≤ most + 1) (raised rows width x cells) 0
    (λ i inside. omega (arith, raised_most rows width x cells i some long, All-get_or (λ cell. cell ≤ most) cells i 0 (omega (arith, length-raised rows width x cells)) small))
