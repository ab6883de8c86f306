use Rattle.std.proofs.Common.{◌≡◌, ◌++◌, length, take}
use Rattle.std.specs.List.{filter}
use Rattle.sk_hub.proofs.updater.put_kept.Given as goal

abbrev pub invariant-item : goal.invariant-item
invariant-item g l = let kept = filter (g.C.Composable.keeps_of l.hint) (take l.item-index l.items) in record {
  count : l.count ≡ length kept;
  items : l.fill.items ≡ l.initial.fill.items ++ kept;
  capacity : l.fill.capacity ≡ l.initial.fill.capacity;
}
