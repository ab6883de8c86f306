use Rattle.std.proofs.Common.{refl}
use Rattle.sk_model.specs.Sketch.{placed, rising, k_smallest}
use Rattle.sk_model.proofs.laws.worked_sketch.worked_word.Goals as goal

pub returns : goal.returns
unfolding placed rising k_smallest
returns c = record { packed = refl; unpacked = refl; fewer = refl; least = refl; empty = refl }
