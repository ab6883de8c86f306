use Rattle.std.proofs.Common.{ℕ, ◌<◌, slice_index_or}
use Rattle.std.specs.Prelude.{IsOk}
use Rattle.sk_feed.proofs.feeder.outcome.Given as goal

abbrev pub invariant-feeder : goal.invariant-feeder
invariant-feeder g l = (i : ℕ) (d : _) → i < l.i → IsOk (slice_index_or l.feeders i d).place
