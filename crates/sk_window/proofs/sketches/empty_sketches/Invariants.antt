use Rattle.std.proofs.Common.{◌≡◌, [], replicate}
use Rattle.sk_window.specs.Intervals.{StandForEach}
use Rattle.sk_window.proofs.sketches.empty_sketches.Given as goal

abbrev pub invariant-sketch : goal.invariant-sketch
invariant-sketch l = (l.sketches.capacity ≡ l.count) × StandForEach l.k l.sketches.items (replicate l.counter [])
