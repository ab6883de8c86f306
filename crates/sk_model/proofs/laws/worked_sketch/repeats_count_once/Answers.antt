use Rattle.std.proofs.Common.{refl}
use Rattle.sk_model.specs.Sketch.{placed, rising, k_smallest}
use Rattle.sk_model.proofs.laws.worked_sketch.repeats_count_once.Goals as goal

pub returns : goal.returns
unfolding placed rising k_smallest
returns c = record { two = refl; three = refl; fewer = refl; count = refl; theta = refl }
