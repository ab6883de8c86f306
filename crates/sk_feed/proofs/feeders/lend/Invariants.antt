use Rattle.std.proofs.Common.{◌≡◌, ◌+◌, ◌++◌, map, reverse, length, vec_len, vec_capacity}
use Rattle.sk_feed.proofs.feeders.lend.Given as goal

abbrev pub invariant-lend : goal.invariant-lend
invariant-lend g l = record {
  moved : map (λ f. f.updater) l.feeders.items ++ reverse l.updaters.items ≡ l.fn.updaters.items;
  count : length l.feeders.items + length l.updaters.items ≡ length l.fn.updaters.items;
  places : vec_capacity l.feeders ≡ vec_capacity l.fn.feeders;
  capacity : vec_capacity l.updaters ≡ vec_capacity l.fn.updaters;
}

abbrev pub decreases-lend : goal.decreases-lend
decreases-lend g l = vec_len l.updaters
