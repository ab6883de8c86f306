use Rattle.std.proofs.Common.{length}
use Rattle.sk_hub.specs.Calls.{Takes}
use Rattle.sk_feed.specs.Hubs.{HeartMayGoOn}
use Rattle.sk_feed.proofs.Done.{DoneTo}
use Rattle.sk_ingest.specs.ItemWindows.{items_held, held_block}
use Rattle.sk_ingest.proofs.held_blocks.feed_held_blocks.Given as goal

abbrev pub invariant-updater : goal.invariant-updater
invariant-updater g l = let k = g.C.Composable in let us = l.fn.updaters.items in record {
  fed : DoneTo (λ i u v. Takes k.keeps_of k.hint_of u (items_held (held_block l.held i (length us))) v) us l.updaters.items l.i;
  heart : HeartMayGoOn l.plan.propagator l.fn.heart l.heart;
}
