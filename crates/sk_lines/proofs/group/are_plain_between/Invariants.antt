use Rattle.std.proofs.Common.{◌≤◌, ◌-◌, min}
use Rattle.sk_lines.specs.Even.{ArePlainBetween}
use Rattle.sk_lines.proofs.group.are_plain_between.Given as goal

abbrev pub invariant-block : goal.invariant-block
invariant-block l = record {
  past : 16 ≤ l.done;
  plain : ArePlainBetween l.bytes l.at l.len 16 (min l.done l.len);
}

abbrev pub decreases-block : goal.decreases-block
decreases-block l = l.len - l.done
