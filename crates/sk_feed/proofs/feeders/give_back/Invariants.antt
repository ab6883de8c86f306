use Rattle.std.proofs.Common.{◌≡◌, ◌+◌, ◌++◌, map, reverse, length, vec_len, vec_capacity}
use Rattle.sk_feed.proofs.feeders.give_back.Given as goal

abbrev pub invariant-back : goal.invariant-back
invariant-back g l = record {
  moved : l.updaters.items ++ reverse (map (λ f. f.updater) l.feeders.items) ≡ map (λ f. f.updater) l.fn.feeders.items;
  count : length l.updaters.items + length l.feeders.items ≡ length l.fn.feeders.items;
  places : vec_capacity l.feeders ≡ vec_capacity l.fn.feeders;
  capacity : vec_capacity l.updaters ≡ vec_capacity l.fn.updaters;
}

abbrev pub decreases-back : goal.decreases-back
decreases-back g l = vec_len l.feeders
