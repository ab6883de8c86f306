use Rattle.std.proofs.Common.{◌≡◌, take}
use Rattle.sk_model.specs.Sketch.{rising}
use Rattle.sk_model.proofs.plain.k_smallest.Given as goal

abbrev pub invariant-place : goal.invariant-place
invariant-place l = l.kept.items ≡ rising (take l.hash-index l.hashes)
