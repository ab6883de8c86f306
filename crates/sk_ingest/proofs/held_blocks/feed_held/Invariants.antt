use Rattle.std.proofs.Common.{◌+◌, ◌-◌, ◌≤◌, length, take}
use Rattle.sk_model.specs.Limits.{most_kept}
use Rattle.sk_hub.specs.Updaters.{kept_of}
use Rattle.sk_hub.specs.Calls.{Takes}
use Rattle.sk_feed.specs.Hubs.{HeartMayGoOn}
use Rattle.sk_ingest.specs.ItemWindows.{items_held}
use Rattle.sk_ingest.proofs.held_blocks.feed_held.Given as goal

abbrev pub invariant-group : goal.invariant-group
invariant-group g l = let k = g.C.Composable in record {
  within : l.at ≤ length l.held;
  taken : Takes k.keeps_of k.hint_of l.initial.u (items_held (take l.at l.held)) l.u;
  room : length (kept_of l.u) + (length l.held - l.at) ≤ most_kept;
  heart : HeartMayGoOn l.plan.propagator l.initial.heart l.heart;
}

abbrev pub decreases-group : goal.decreases-group
decreases-group g l = length l.held - l.at
