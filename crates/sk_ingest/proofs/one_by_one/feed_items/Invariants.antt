use Rattle.std.proofs.Common.{◌+◌, ◌-◌, ◌≤◌, length, take}
use Rattle.sk_model.specs.Limits.{most_kept}
use Rattle.sk_hub.specs.Updaters.{kept_of}
use Rattle.sk_hub.specs.Calls.{Takes}
use Rattle.sk_feed.specs.Hubs.{HeartMayGoOn}
use Rattle.sk_ingest.proofs.one_by_one.feed_items.Given as goal

abbrev pub invariant-some : goal.invariant-some
invariant-some g l = let k = g.C.Composable in record {
  within : l.at ≤ length l.items;
  taken : Takes k.keeps_of k.hint_of l.initial.u (take l.at l.items) l.u;
  room : length (kept_of l.u) + (length l.items - l.at) ≤ most_kept;
  heart : HeartMayGoOn l.plan.propagator l.initial.heart l.heart;
}

abbrev pub decreases-some : goal.decreases-some
decreases-some g l = length l.items - l.at
