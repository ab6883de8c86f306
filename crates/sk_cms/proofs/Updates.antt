-- The fields of a sketch, read and after an item.
use Rattle.std.proofs.Common.{◌≡◌, ℕ, suc, ◌+◌, ◌<◌, ◌≤◌, min, get_or, Vec, Global, List, length, ap, ◌∙◌, arith}
use Rattle.std.specs.Vec.{with_items}
use Rattle.std.proofs.lemmas.List.{with_items_is}
use Rattle.sk_cms.specs.Cells.{cell_below, place}
use Rattle.sk_cms.specs.Counts.{Counts, counted, joined, raised, shown_by, IsCountOf}
use Rattle.sk_cms.specs.Estimate.{least_of}
use Rattle.sk_cms.proofs.Estimates.{least-suc}

-- a vector whose items were lent and came back
pub came_back : (v : Vec ℕ Global) (lent now : List ℕ) → lent ≡ v.items → length now ≡ length lent → (with_items v now).items ≡ now
came_back v lent now is_lent long = with_items_is v now (omega (arith, long, ap length is_lent, v.ok.0))

-- cells that were lent, raised and came back are those of `update`
pub shown_counted : (rows width width' count x : ℕ) (low high : Vec ℕ Global) (lent_low lent_high now_low now_high : List ℕ) → lent_low ≡ low.items → lent_high ≡ high.items → width' ≡ width → length now_low ≡ length lent_low → length now_high ≡ length lent_high
    → joined now_low now_high ≡ raised rows width' x (joined lent_low lent_high) → shown_by rows width (count + 1) (with_items low now_low).items (with_items high now_high).items ≡ counted (shown_by rows width count low.items high.items) x
shown_counted rows width width' count x low high lent_low lent_high now_low now_high is_low is_high same_width long_low long_high is =
    let shows : List ℕ → Counts = λ cells. record { rows = rows; width = width; count = count + 1; cells = cells } in
    ap (λ (l : List ℕ). shows (joined l (with_items high now_high).items)) (came_back low lent_low now_low is_low long_low)
    ∙ ap (λ (h : List ℕ). shows (joined now_low h)) (came_back high lent_high now_high is_high long_high)
    ∙ ap shows is
    ∙ ap (λ (w : ℕ). shows (raised rows w x (joined lent_low lent_high))) same_width
    ∙ ap (λ (l : List ℕ). shows (raised rows width x (joined l lent_high))) is_low
    ∙ ap (λ (h : List ℕ). shows (raised rows width x (joined low.items h))) is_high

-- one more row was read
pub one_row_read : (sketch : Counts) (r x least cell : ℕ) (items : List ℕ) → IsCountOf sketch items → 1 ≤ sketch.width → r < sketch.rows → least ≡ least_of r sketch.width x items → cell ≡ get_or sketch.cells (place sketch.width r x) 0
    → min least cell ≡ least_of (suc r) sketch.width x items
one_row_read sketch r x least cell items is some below so_far read =
    omega (arith, least-suc r sketch.width x items, so_far, read, is.cells r _ below (cell_below sketch.width r x some))
