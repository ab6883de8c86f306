use Rattle.std.proofs.Common.{◌≡◌, ◌-◌, ◌≤◌, ◌++◌, length, take}
use Rattle.sk_make.proofs.source.MakeSourceSource.read.Given as goal

abbrev pub invariant-fill : goal.invariant-fill
invariant-fill l = record {
  within : l.at ≤ length l.buf;
  bytes : l.initial.self.left ≡ take l.at l.buf ++ l.self.left;
}

abbrev pub decreases-fill : goal.decreases-fill
decreases-fill l = length l.buf - l.at
