use Rattle.std.proofs.Common.{◌≤◌, ◌<◌, ◌-◌, ℕ, slice_index}
use Rattle.sk_lines.proofs.group.are_plain.Given as goal

abbrev pub invariant-block : goal.invariant-block
invariant-block l = record {
  past : l.from ≤ l.at;
  plain : (i : ℕ) → l.from ≤ i → i < l.at → i < l.end → 14 ≤ slice_index l.bytes i;
}

abbrev pub decreases-block : goal.decreases-block
decreases-block l = l.end - l.at
