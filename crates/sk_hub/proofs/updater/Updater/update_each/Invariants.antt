use Rattle.std.proofs.Common.{◌+◌, ◌-◌, ◌≤◌, length, take}
use Rattle.sk_model.specs.Limits.{most_kept}
use Rattle.sk_hub.specs.Updaters.{kept_of}
use Rattle.sk_hub.specs.Calls.{Takes}
use Rattle.sk_hub.proofs.updater.Updater.update_each.Given as goal

abbrev pub invariant-items : goal.invariant-items
invariant-items g l = let k = g.C.Composable in record {
  within : l.at ≤ length l.items;
  taken : Takes k.keeps_of k.hint_of l.initial.self (take l.at l.items) l.self;
  room : length (kept_of l.self) + (length l.items - l.at) ≤ most_kept;
}

abbrev pub decreases-items : goal.decreases-items
decreases-items g l = length l.items - l.at
