use Rattle.std.proofs.Common.{◌≡◌, List, ℕ, ◌++◌, drop, reverse}
use Rattle.sk_theta.specs.Kept.{StandsFor}
use Rattle.sk_heap.proofs.heap_theta.HeapTheta.merge_back.Given as goal

abbrev pub invariant-merge : goal.invariant-merge
invariant-merge l = record {
  numbers : l.self.k ≡ l.fn.self.k;
  stands : (hashes : List ℕ) → StandsFor l.fn.self hashes → StandsFor l.self (hashes ++ reverse (drop l.at l.batch));
}
