use Rattle.sk_fill.specs.Blocks.{blocks_of}
use Rattle.sk_feed.proofs.Done.{DoneTo}
use Rattle.sk_desks.specs.Feeds.{TakesLines}
use Rattle.sk_desks.proofs.taker.feed_in_turn.Given as goal

abbrev pub invariant-taker : goal.invariant-taker
invariant-taker g l = DoneTo (λ i t u. TakesLines l.seed t.desk (blocks_of l.stretch.windows i l.n) u.desk) l.fn.takers.items l.takers.items l.i
