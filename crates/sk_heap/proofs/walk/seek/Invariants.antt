use Rattle.std.proofs.Common.{◌≤◌}
use Rattle.sk_heap.specs.Table.{HasNone}
use Rattle.sk_heap.proofs.walk.seek.Given as goal

abbrev pub invariant-place : goal.invariant-place
invariant-place l = record {
  order : l.from ≤ l.at;
  full : HasNone 0 l.table l.from l.at;
  other : HasNone l.entry l.table l.from l.at;
}
