use Rattle.std.proofs.Common.{◌≡◌, take}
use Rattle.sk_quant.specs.Quantiles.{IsSketchOf}
use Rattle.sk_base_calls.proofs.tests.quantiles.rank_in.Given as goal

abbrev pub invariant-feed : goal.invariant-feed
invariant-feed l = record {
  k : l.sketch.k ≡ l.k;
  key : l.sketch.key ≡ l.key;
  list : IsSketchOf l.sketch (take l.item-index l.items);
}
