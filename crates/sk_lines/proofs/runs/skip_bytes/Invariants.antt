use Rattle.std.proofs.Common.{◌-◌, ◌+◌, ◌≤◌, length}
use Rattle.sk_lines.proofs.Passing.{HasPassed}
use Rattle.sk_lines.proofs.runs.skip_bytes.Given as goal

abbrev pub invariant-byte : goal.invariant-byte
invariant-byte l = record {
  few : l.count ≤ l.most;
  passed : HasPassed l.bytes l.from l.scanned l.count l.at;
  text : l.at + 64 ≤ length l.bytes;
  within : l.scanned ≤ length l.bytes;
}

abbrev pub decreases-byte : goal.decreases-byte
decreases-byte l = length l.bytes - l.scanned
