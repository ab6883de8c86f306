use Rattle.std.proofs.Common.{◌≡◌, ◌≤◌, length, take, drop, map}
use Rattle.sk_lines.specs.Spans.{AreEnds, AreLines}
use Rattle.sk_lines.proofs.spans.cut_lines.Given as goal

abbrev pub invariant-line : goal.invariant-line
invariant-line l = record {
  size : length l.spans ≡ 128;
  within : l.at ≤ length l.bytes;
  lines : AreLines l.bytes l.limit l.from (take l.i l.spans) l.at;
  ends : AreEnds l.bytes l.at (map (λ span. span.to) (drop l.i (take l.count l.spans)));
}
