use Rattle.std.proofs.Common.{◌≡◌, ◌≤◌, ◌-◌, ℕ, length, take}
use Rattle.sk_lines.specs.Spans.{AreLines}
use Rattle.sk_lines.proofs.group.cut_fours.Given as goal

abbrev pub invariant-four : goal.invariant-four
invariant-four l = record {
  size : length l.spans ≡ 128;
  few : l.count ≤ l.room;
  within : l.at ≤ length l.bytes;
  lines : (limit : ℕ) → l.len ≤ limit → AreLines l.bytes limit l.from (take l.count l.spans) l.at;
}

abbrev pub decreases-four : goal.decreases-four
decreases-four l = l.room - l.count
