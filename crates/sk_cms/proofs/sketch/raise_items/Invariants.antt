use Rattle.std.proofs.Common.{◌≡◌, ◌+◌, ◌≤◌, All, fold, flat_map, take}
use Rattle.sk_cms.specs.Counts.{joined}
use Rattle.sk_cms.specs.Limits.{most_counted}
use Rattle.sk_cms.specs.Places.{places_of, raised_once}
use Rattle.sk_cms.proofs.sketch.raise_items.Given as goal

abbrev pub invariant-item : goal.invariant-item
invariant-item l = record {
  cells : joined l.low l.high ≡ fold raised_once (joined l.initial.low l.initial.high) (flat_map (places_of l.rows l.width) (take l.x-index l.items));
  small : All (λ cell. cell ≤ most_counted + l.x-index) (joined l.low l.high);
}
