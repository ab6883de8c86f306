use Rattle.std.proofs.Common.{length}
use Rattle.sk_heap.specs.Heap.{HasSame}
use Rattle.sk_heap.proofs.Gaps.{IsShifted}
use Rattle.sk_heap.proofs.table.shift_near.Given as goal

abbrev pub invariant-shift : goal.invariant-shift
invariant-shift l = record {
  shifted : IsShifted (length l.table) l.fn.table l.table l.start l.last l.gap l.step;
  same : HasSame l.table l.fn.table;
}
