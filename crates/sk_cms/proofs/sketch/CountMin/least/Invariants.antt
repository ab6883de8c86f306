use Rattle.std.proofs.Common.{◌≡◌, List, ℕ}
use Rattle.sk_cms.specs.Counts.{IsCountOf}
use Rattle.sk_cms.specs.Estimate.{least_of}
use Rattle.sk_cms.proofs.sketch.CountMin.least.Given as goal

abbrev pub invariant-row : goal.invariant-row
invariant-row l = (items : List ℕ) → IsCountOf l.self items → l.least ≡ least_of l.r l.self.width l.x items
