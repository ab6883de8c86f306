-- What a sketch stands for, before and after an item.
use Rattle.std.proofs.Common.{ℕ, ◌+◌, ◌*◌, ◌<◌, ◌≤◌, ◌==◌, cond, List, [], ◌∷◌, ◌++◌, refl, ◌∙◌, arith, length-append}
use Rattle.std.proofs.lemmas.List.{length-replicate, get_or-replicate}
use Rattle.std.proofs.lemmas.List.Elements.{All-replicate}
use Rattle.std.proofs.lemmas.List.Sums.{sum_by_push}
use Rattle.sk_cms.specs.Counts.{Counts, counted, no_counts, IsCountOf, IsWholeCounts}
use Rattle.sk_cms.specs.Estimate.{cell_of}
use Rattle.sk_cms.specs.Limits.{most_counted, IsShape}
use Rattle.sk_cms.specs.Cells.{length-raised, raised_at, raised_small, place_below}

pub no_items_is_of : (rows width : ℕ) → IsCountOf (no_counts rows width) []
no_items_is_of rows width = record {
  count = refl;
  size = length-replicate (rows * width) 0;
  cells = λ r c below inside. get_or-replicate (rows * width) (r * width + c) 0 0 (place_below rows width r c below inside);
}

pub whole_nothing : (rows width : ℕ) → IsShape rows width → IsWholeCounts (no_counts rows width)
whole_nothing rows width shape = record {
  shape = shape;
  count = omega arith;
  size = length-replicate (rows * width) 0;
  small = All-replicate (λ cell. cell ≤ 0) (rows * width) 0 (omega arith);
}

pub counted_is_of : (sketch : Counts) (x : ℕ) (items : List ℕ) → IsCountOf sketch items → IsCountOf (counted sketch x) (items ++ x ∷ [])
counted_is_of sketch x items is = record {
  count = omega (arith, is.count, length-append items (x ∷ []));
  size = length-raised sketch.rows sketch.width x sketch.cells ∙ is.size;
  cells =
      λ r c below inside. omega (
        arith,
        raised_at sketch.rows sketch.width x sketch.cells r c (omega arith) (omega (arith, is.size)) below inside,
        is.cells r c below inside,
        sum_by_push (λ y. cond (cell_of sketch.width r y == c) 1 0) items x,
      );
}

pub whole_counted : (sketch : Counts) (x : ℕ) → IsWholeCounts sketch → sketch.count < most_counted → IsWholeCounts (counted sketch x)
whole_counted sketch x whole few = record {
  shape = whole.shape;
  count = omega arith;
  size = length-raised sketch.rows sketch.width x sketch.cells ∙ whole.size;
  small = raised_small sketch.rows sketch.width x sketch.cells sketch.count whole.shape.some_width (omega (arith, whole.size)) whole.small;
}
