use Rattle.std.proofs.Common.{◌≡◌, ◌≢◌, ◌≤◌, ◌+◌, length, slice_range}
use Rattle.sk_model.specs.Limits.{most_kept}
use Rattle.sk_hub.specs.Updaters.{kept_of}
use Rattle.sk_feed.specs.OnItsWay.{IsOnItsWay}
use Rattle.sk_feed.specs.Hubs.{HeartGoesOn}
use Rattle.sk_feed.specs.declared.propagation.Propagation.TheVariants.{ByHeart}
use Rattle.sk_feed.proofs.turns.feed_through.Given as goal

abbrev pub invariant-again : goal.invariant-again
invariant-again g l = let k = g.C.Composable in record {
  kind : l.items.kind ≡ l.fn.kind;
  way : IsOnItsWay k.keeps_of k.hint_of (slice_range l.fn.window.lines l.fn.block.from l.fn.block.to) l.fn.u l.u l.items;
  room : length (kept_of l.u) + (length l.items.waiting + length l.items.rest) ≤ most_kept;
  heart : HeartGoesOn l.fn.heart l.heart;
  quiet : l.by ≢ ByHeart → l.heart ≡ l.fn.heart;
}
