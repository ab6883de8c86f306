use Rattle.std.proofs.Common.{◌≡◌, ◌≤◌, ◌-◌, length, take}
use Rattle.sk_quant.specs.Quantiles.{updated_all}
use Rattle.sk_quant.proofs.sketch.Quant.update_all.Given as goal

abbrev pub invariant-fill : goal.invariant-fill
invariant-fill l = record {
  left : l.self ≡ updated_all l.fn.self (take l.at l.items);
  within : l.at ≤ length l.items;
  few : l.filled ≤ l.at;
}

abbrev pub decreases-fill : goal.decreases-fill
decreases-fill l = length l.items - l.at
