use Rattle.std.proofs.Common.{◌≡◌, ◌≤◌, take}
use Rattle.std.specs.List.{filter}
use Rattle.sk_ingest.specs.ItemWindows.{items_held}
use Rattle.sk_ingest.proofs.held_blocks.keep_items.Given as goal

abbrev pub invariant-item : goal.invariant-item
invariant-item g l = record {
  few : l.count ≤ l.at;
  kept : take l.count l.kept ≡ filter (g.C.Composable.keeps_of l.hint) (items_held (take l.at l.held));
}
