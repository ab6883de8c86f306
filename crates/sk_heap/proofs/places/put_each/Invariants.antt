use Rattle.std.proofs.Common.{drop}
use Rattle.sk_heap.specs.Held.{IsTabled}
use Rattle.sk_heap.proofs.places.put_each.Given as goal

abbrev pub invariant-hash : goal.invariant-hash
invariant-hash l = IsTabled (drop l.at l.hashes) l.table
