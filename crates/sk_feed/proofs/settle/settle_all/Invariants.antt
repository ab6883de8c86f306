use Rattle.sk_feed.specs.Hubs.{HeartGoesOn, HasAllPublished, HandsOverEarly}
use Rattle.sk_feed.specs.Shares.{KeepNone}
use Rattle.sk_feed.proofs.Done.{DoneTo}
use Rattle.sk_feed.proofs.settle.settle_all.Given as goal

abbrev pub invariant-updater : goal.invariant-updater
invariant-updater g l = let k = g.C.Composable in let us = l.fn.updaters.items in record {
  none : KeepNone us l.updaters.items;
  settled : DoneTo (λ i u v. HasAllPublished v × HandsOverEarly k.early_of v) us l.updaters.items l.i;
  heart : HeartGoesOn l.fn.heart l.heart;
}
