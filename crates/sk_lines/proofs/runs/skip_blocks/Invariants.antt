use Rattle.std.proofs.Common.{◌-◌, ◌+◌, ◌≤◌, length}
use Rattle.sk_lines.proofs.Passing.{HasPassed}
use Rattle.sk_lines.proofs.runs.skip_blocks.Given as goal

abbrev pub invariant-block : goal.invariant-block
invariant-block l = record {
  few : l.passed.count ≤ l.most;
  passed : HasPassed l.bytes l.from l.passed.scanned l.passed.count l.passed.at;
  text : l.passed.at + 64 ≤ length l.bytes;
  within : l.passed.scanned ≤ length l.bytes;
}

abbrev pub decreases-block : goal.decreases-block
decreases-block l = length l.bytes - l.passed.scanned
