use Rattle.sk_model.proofs.Sketch as laws
use Rattle.sk_model.proofs.laws.sketch.idle_stays.Goals as goal

pub returns : goal.returns
returns c = laws.idle_stays
