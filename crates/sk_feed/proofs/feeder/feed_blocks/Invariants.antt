use Rattle.std.proofs.Common.{map}
use Rattle.sk_feed.proofs.Rooms.{IsOnItsWay}
use Rattle.sk_feed.proofs.feeder.feed_blocks.Given as goal

abbrev pub invariant-window : goal.invariant-window
invariant-window g l = let k = g.C.Composable in IsOnItsWay k.keeps_of k.hint_of l.kind (map (λ w. w.lines) l.windows) l.i l.n l.at l.initial.u l.u
