use Rattle.std.proofs.Common.{◌≢◌, ◌≤◌, ◌<◌, ◌-◌, ℕ, slice_index}
use Rattle.sk_desks.proofs.even.are_blocks_without_lf.Given as goal

abbrev pub invariant-block : goal.invariant-block
invariant-block l = record {
  past : l.from ≤ l.at;
  plain : (i : ℕ) → l.from ≤ i → i < l.at → i < l.to → slice_index l.text i ≢ 10;
}

abbrev pub decreases-block : goal.decreases-block
decreases-block l = l.to - l.at
