use Rattle.std.proofs.Common.{◌≡◌, take}
use Rattle.sk_cms.specs.Counts.{IsCountOf}
use Rattle.sk_base_calls.proofs.tests.tallies.estimate.Given as goal

abbrev pub invariant-feed : goal.invariant-feed
invariant-feed l = record {
  rows : l.sketch.rows ≡ l.rows;
  width : l.sketch.width ≡ l.width;
  list : IsCountOf l.sketch (take l.item-index l.items);
}
