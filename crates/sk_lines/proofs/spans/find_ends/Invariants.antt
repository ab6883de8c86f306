use Rattle.std.proofs.Common.{◌<◌, ◌≤◌, ◌-◌, length}
use Rattle.sk_lines.specs.Spans.{HoldsEnds, AreEnds, ends_of}
use Rattle.sk_lines.proofs.spans.find_ends.Given as goal

abbrev pub invariant-block : goal.invariant-block
invariant-block l = record {
  few : l.count ≤ 128;
  ends : AreEnds l.bytes l.from (ends_of l.count l.spans);
  holds : l.count < 128 → HoldsEnds l.bytes l.from (ends_of l.count l.spans) l.scanned 0;
}

abbrev pub decreases-block : goal.decreases-block
decreases-block l = length l.bytes - l.scanned
