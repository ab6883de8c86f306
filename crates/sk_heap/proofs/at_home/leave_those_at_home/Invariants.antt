use Rattle.std.proofs.Common.{◌≡◌, ◌≤◌, not, take}
use Rattle.std.specs.List.{filter}
use Rattle.sk_heap.specs.Table.{is_at_home}
use Rattle.sk_heap.proofs.at_home.leave_those_at_home.Given as goal

abbrev pub invariant-hash : goal.invariant-hash
invariant-hash l = record {
  few : l.count ≤ l.hash-index;
  rest : take l.count l.rest ≡ filter (λ h. not (is_at_home l.table h)) (take l.hash-index l.hashes);
}
