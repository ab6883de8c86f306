use Rattle.std.proofs.Common.{◌≡◌, ◌≤◌, ◌-◌, length, take}
use Rattle.sk_lines.specs.Spans.{AreLines}
use Rattle.sk_lines.proofs.group.cut_even_lines.Given as goal

abbrev pub invariant-line : goal.invariant-line
invariant-line l = record {
  size : length l.spans ≡ 128;
  few : l.count ≤ 128;
  most : l.count ≤ l.most;
  within : l.at ≤ length l.bytes;
  lines : AreLines l.bytes l.limit l.from (take l.count l.spans) l.at;
}

abbrev pub decreases-line : goal.decreases-line
decreases-line l = 128 - l.count
