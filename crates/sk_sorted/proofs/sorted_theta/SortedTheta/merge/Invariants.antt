use Rattle.std.proofs.Common.{◌≡◌, ◌≤◌, ◌-◌, List, ℕ, ◌++◌, length, take}
use Rattle.sk_theta.specs.Kept.{StandsFor}
use Rattle.sk_sorted.proofs.sorted_theta.SortedTheta.merge.Given as goal

abbrev pub invariant-merge : goal.invariant-merge
invariant-merge l = record {
  within : l.at ≤ length l.batch;
  numbers : l.self.k ≡ l.fn.self.k;
  stands : (hashes : List ℕ) → StandsFor l.fn.self hashes → StandsFor l.self (hashes ++ take l.at l.batch);
}

abbrev pub decreases-merge : goal.decreases-merge
decreases-merge l = length l.batch - l.at
