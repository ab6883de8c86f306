use Rattle.std.proofs.Common.{◌≤◌, ◌<◌, ◌-◌, ℕ, length, slice_index}
use Rattle.sk_sorted.proofs.least.end_below.Given as goal

abbrev pub invariant-below : goal.invariant-below
invariant-below l = record {
  low : l.fn.from ≤ l.i;
  high : l.i ≤ length l.kept;
  few : l.i - l.fn.from ≤ l.most;
  below : (j : ℕ) → l.fn.from ≤ j → j < l.i → slice_index l.kept j < l.end;
}

abbrev pub decreases-below : goal.decreases-below
decreases-below l = length l.kept - l.i
