use Rattle.std.proofs.Common.{◌≡◌, ℕ, ◌<◌, ◌≤◌, max, slice_index, length}
use Rattle.sk_core.proofs.state.tokens.longest.Given as goal

abbrev pub invariant-updaters : goal.invariant-updaters
invariant-updaters l = record {
  wide : length l.longest ≡ 64;
  done : (j : ℕ) → j < l.i → slice_index l.longest j ≡ max (slice_index l.known j) (slice_index l.other j);
  todo : (j : ℕ) → l.i ≤ j → slice_index l.longest j ≡ slice_index l.known j;
}
