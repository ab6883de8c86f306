use Rattle.std.proofs.Common.{◌≡◌}
use Rattle.sk_cms.specs.Counts.{joined, raised}
use Rattle.sk_cms.proofs.sketch.raise.Given as goal

abbrev pub invariant-row : goal.invariant-row
invariant-row l = joined l.low l.high ≡ raised l.r l.width l.x (joined l.initial.low l.initial.high)
