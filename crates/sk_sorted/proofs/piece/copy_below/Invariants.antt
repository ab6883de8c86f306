use Rattle.std.proofs.Common.{◌≡◌, ◌≤◌, take, nat_lt}
use Rattle.std.specs.List.{filter}
use Rattle.sk_sorted.proofs.piece.copy_below.Given as goal

abbrev pub invariant-hash : goal.invariant-hash
invariant-hash l = record {
  few : l.count ≤ l.hash-index;
  below : take l.count l.below ≡ filter (λ h. nat_lt h l.end) (take l.hash-index l.hashes);
}
