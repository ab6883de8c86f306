use Rattle.std.proofs.Common.{length}
use Rattle.sk_heap.specs.Heap.{HasSame}
use Rattle.sk_heap.specs.Table.{IsGap}
use Rattle.sk_heap.proofs.table.shift_run.Given as goal

abbrev pub invariant-shift : goal.invariant-shift
invariant-shift l = record {
  gap : IsGap (length l.table) l.table l.start l.gap l.step;
  same : HasSame l.table l.fn.table;
}
