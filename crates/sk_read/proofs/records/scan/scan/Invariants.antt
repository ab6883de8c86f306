use Rattle.std.proofs.Common.{◌≤◌, ◌-◌, length, take}
use Rattle.sk_read.specs.Scan.{state_of, IsCut}
use Rattle.sk_read.proofs.records.scan.scan.Given as goal

abbrev pub invariant-run : goal.invariant-run
invariant-run l = record {
  cut : IsCut (state_of l.fn.start) (take l.at l.piece) (state_of l.place) l.cut;
  within : l.cut ≤ l.at;
  at : l.at ≤ length l.piece;
}

abbrev pub decreases-run : goal.decreases-run
decreases-run l = length l.piece - l.at
