use Rattle.sk_model.proofs.Sketch as laws
use Rattle.sk_model.proofs.laws.sketch.count_within.Goals as goal

pub returns : goal.returns
returns c = laws.count_within
