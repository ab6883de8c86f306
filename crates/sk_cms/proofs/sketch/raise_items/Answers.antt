use Rattle.std.proofs.Common.{◌≡◌, ◌+◌, ◌*◌, ◌<◌, ◌≤◌, ◌^◌, ℕ, List, length, take, fold, flat_map, get_or, All, sym, ap, subst, ◌∙◌, arith}
use Rattle.std.proofs.lemmas.List.Sums.{fold-append}
use Rattle.sk_cms.specs.Cells.{raised_small}
use Rattle.sk_cms.specs.Counts.{joined, raised}
use Rattle.sk_cms.specs.Limits.{most_counted}
use Rattle.sk_cms.specs.Places.{places_of, raised_once}
use Rattle.sk_cms.proofs.Joined.{length-joined}
use Rattle.sk_cms.proofs.Placing.{places_more, raised_is}
use Rattle.sk_cms.proofs.sketch.raise_items.Goals as goal

pub raise-requires-clause-small : goal.raise-requires-clause-small
raise-requires-clause-small c = λ k d inside. omega (arith, c.item.invariant.small k d inside, c.requires.few, c.item-test.true)

pub item-preserved : goal.item-preserved
item-preserved c =
    let rows = c.args.rows in let width = c.args.width in
    let items = c.args.items.now in let i = c.item.x-index in
    let cells = joined c.args.low.now c.args.high.now in
    let before = flat_map (places_of rows width) (take i items) in
    let x = get_or items i 0 in
    let now = joined c.item.low c.item.high in
    record {
      cells =
          c.raise.ensures.cells
          ∙ sym (raised_is rows width x now)
          ∙ ap (λ (l : List ℕ). fold raised_once l (places_of rows width x)) c.item.invariant.cells
          ∙ sym (fold-append raised_once cells before (places_of rows width x))
          ∙ ap (λ (l : List ℕ). fold raised_once cells l) (sym (places_more rows width items i c.item-test.true));
      small =
          let long : rows * width ≤ length now = omega (arith, length-joined c.item.low c.item.high (omega (arith, c.item.auto.low, c.item.auto.high, c.requires.low, c.requires.high)), c.item.auto.low, c.requires.low) in
          let more : All (λ cell. cell ≤ most_counted + i + 1) (raised rows width x now) = raised_small rows width x now (most_counted + i) c.requires.shape.some_width long c.item.invariant.small in
          let is : All (λ cell. cell ≤ most_counted + i + 1) (joined c.raise.new.low c.raise.new.high) = subst (All (λ cell. cell ≤ most_counted + i + 1)) (sym c.raise.ensures.cells) more in
          λ k d inside. omega (arith, is k d inside);
    }
