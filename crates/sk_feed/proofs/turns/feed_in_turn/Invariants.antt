use Rattle.sk_fill.specs.Blocks.{block_of}
use Rattle.sk_fill.specs.Windows.{items_in}
use Rattle.sk_hub.specs.Calls.{Takes}
use Rattle.sk_feed.specs.Hubs.{HeartGoesOn}
use Rattle.std.proofs.Common.{◌≡◌, ◌≢◌, true, length}
use Rattle.sk_feed.specs.Calls.{filter_of, IsFedEach}
use Rattle.sk_feed.specs.declared.propagation.Propagation.TheVariants.{ByHeart, AfterEachItem}
use Rattle.sk_feed.proofs.Done.{DoneTo}
use Rattle.sk_feed.proofs.turns.feed_in_turn.Given as goal

abbrev pub invariant-updater : goal.invariant-updater
invariant-updater g l = let k = g.C.Composable in let us = l.fn.updaters.items in record {
  fed : DoneTo (λ i u v. Takes k.keeps_of k.hint_of u (items_in l.kind (block_of l.window.lines i (length us))) v) us l.updaters.items l.i;
  each : l.by ≡ AfterEachItem → DoneTo (λ i u v. IsFedEach (filter_of k.keeps_of k.early_of k.hint_of) true u (items_in l.kind (block_of l.window.lines i (length us))) v) us l.updaters.items l.i;
  heart : HeartGoesOn l.fn.heart l.heart;
  quiet : l.by ≢ ByHeart → l.heart ≡ l.fn.heart;
}
