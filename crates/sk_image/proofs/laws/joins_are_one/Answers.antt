use Rattle.sk_model.proofs.Sketch.{k_smallest_append, either_first}
use Rattle.sk_image.proofs.laws.joins_are_one.Goals as goal

pub returns-clause-one : goal.returns-clause-one
returns-clause-one c = k_smallest_append

pub returns-clause-either_first : goal.returns-clause-either_first
returns-clause-either_first c = either_first
