use Rattle.std.proofs.Common.{◌≤◌, ◌-◌, ℕ, length}
use Rattle.sk_lines.specs.Marks.{KnowsLfs}
use Rattle.sk_lines.proofs.marks.search.Given as goal

abbrev pub invariant-search : goal.invariant-search
invariant-search l = record {
  known : (at : ℕ) → KnowsLfs l.bytes at l.from 0 → KnowsLfs l.bytes at l.scanned 0;
  bound : l.scanned ≤ length l.bytes;
}

abbrev pub decreases-search : goal.decreases-search
decreases-search l = length l.bytes - l.scanned
