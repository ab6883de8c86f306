use Rattle.std.proofs.Common.{map}
use Rattle.sk_desks.proofs.StretchLaws.{IsOnItsWay}
use Rattle.sk_desks.proofs.feed.feed_blocks.Given as goal

abbrev pub invariant-window : goal.invariant-window
invariant-window g l = IsOnItsWay l.seed (map (λ w. w.lines) l.windows) l.i l.n l.at l.initial.desk l.desk
