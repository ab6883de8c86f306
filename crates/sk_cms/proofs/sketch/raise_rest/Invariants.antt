use Rattle.std.proofs.Common.{◌≡◌, fold, take}
use Rattle.sk_cms.specs.Counts.{joined}
use Rattle.sk_cms.specs.Places.{raised_once}
use Rattle.sk_cms.proofs.sketch.raise_rest.Given as goal

abbrev pub invariant-place : goal.invariant-place
invariant-place l = joined l.low l.high ≡ fold raised_once (joined l.initial.low l.initial.high) (take l.at-index l.places)
