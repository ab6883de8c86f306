use Rattle.std.proofs.Common.{◌≡◌, ◌*◌, fold, take}
use Rattle.sk_cms.specs.Counts.{joined}
use Rattle.sk_cms.specs.Places.{raised_once}
use Rattle.sk_cms.proofs.sketch.raise_each.Given as goal

abbrev pub invariant-four : goal.invariant-four
invariant-four l = joined l.low l.high ≡ fold raised_once (joined l.initial.low l.initial.high) (take (4 * l.four-index) l.places)
