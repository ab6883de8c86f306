use Rattle.std.proofs.Common.{◌≡◌, List, ℕ, ◌++◌, take}
use Rattle.sk_theta.specs.Kept.{StandsFor}
use Rattle.sk_heap.proofs.heap_theta.HeapTheta.update_each.Given as goal

abbrev pub invariant-hash : goal.invariant-hash
invariant-hash l = record {
  numbers : l.self.k ≡ l.fn.self.k;
  stands : (hashes : List ℕ) → StandsFor l.fn.self hashes → StandsFor l.self (hashes ++ take l.h-index l.batch);
}
