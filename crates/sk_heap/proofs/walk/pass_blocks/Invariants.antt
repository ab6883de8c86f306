use Rattle.std.proofs.Common.{◌≤◌, ◌-◌, length}
use Rattle.sk_heap.specs.Table.{HasNone}
use Rattle.sk_heap.proofs.walk.pass_blocks.Given as goal

abbrev pub invariant-block : goal.invariant-block
invariant-block l = record {
  within : l.at ≤ length l.table;
  order : l.from ≤ l.at;
  full : HasNone 0 l.table l.from l.at;
  other : HasNone l.entry l.table l.from l.at;
}

abbrev pub decreases-block : goal.decreases-block
decreases-block l = length l.table - l.at
