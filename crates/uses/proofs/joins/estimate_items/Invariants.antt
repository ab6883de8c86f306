use Rattle.std.specs.Prelude.{◌≡◌, take}
use Rattle.sk_theta.specs.Kept.{StandsFor}
use Rattle.uses.proofs.joins.estimate_items.Given as goal

abbrev pub invariant-item : goal.invariant-item
invariant-item l = record {
  numbers : l.sketch.k ≡ l.fn.k;
  stands : StandsFor l.sketch (take l.item-index l.items);
}
