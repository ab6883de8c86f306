use Rattle.std.proofs.Common.{◌≤◌, ◌-◌, ℕ, List}
use Rattle.sk_lines.specs.Spans.{HoldsEnds, ends_of}
use Rattle.sk_lines.proofs.spans.put_other_ends.Given as goal

abbrev pub invariant-mark : goal.invariant-mark
invariant-mark l = record {
  few : l.count ≤ 128;
  holds : (bytes : List ℕ) (from : ℕ) → HoldsEnds bytes from (ends_of l.initial.count l.initial.spans) l.scanned l.initial.marks → HoldsEnds bytes from (ends_of l.count l.spans) l.scanned l.marks;
}

abbrev pub decreases-mark : goal.decreases-mark
decreases-mark l = 128 - l.count
