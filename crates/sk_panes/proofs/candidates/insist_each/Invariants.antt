use Rattle.std.proofs.Common.{◌+◌, ◌-◌, ◌≤◌, length, take}
use Rattle.sk_model.specs.Limits.{most_kept}
use Rattle.sk_hub.specs.Calls.{Takes}
use Rattle.sk_hub.specs.Updaters.{kept_of}
use Rattle.sk_panes.proofs.candidates.insist_each.Given as goal

abbrev pub invariant-item : goal.invariant-item
invariant-item g l = let k = g.C.Composable in record {
  taken : Takes k.keeps_of k.hint_of l.initial.u (take l.item-index l.items) l.u;
  room : length (kept_of l.u) + (length l.items - l.item-index) ≤ most_kept;
}
