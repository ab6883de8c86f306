use Rattle.std.proofs.Common.{◌-◌}
use Rattle.sk_desks.proofs.FeedLaws.{HasTaken}
use Rattle.sk_desks.proofs.feed.feed_even.Given as goal

abbrev pub invariant-line : goal.invariant-line
invariant-line g l = HasTaken l.seed l.initial.desk l.desk l.run l.count 0 l.fed

abbrev pub decreases-line : goal.decreases-line
decreases-line g l = l.count - l.fed
