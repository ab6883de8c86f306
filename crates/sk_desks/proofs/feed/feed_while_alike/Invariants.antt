use Rattle.std.proofs.Common.{◌≡◌, ◌+◌, ◌-◌, ◌*◌}
use Rattle.sk_desks.proofs.FeedLaws.{HasTaken}
use Rattle.sk_desks.proofs.feed.feed_while_alike.Given as goal

abbrev pub invariant-line : goal.invariant-line
invariant-line g l = record {
  taken : HasTaken l.seed l.initial.desk l.desk l.run l.count l.fn.from l.fed;
  place : l.at ≡ l.fed * (l.lengths.len + 1);
}

abbrev pub decreases-line : goal.decreases-line
decreases-line g l = l.end - l.at
