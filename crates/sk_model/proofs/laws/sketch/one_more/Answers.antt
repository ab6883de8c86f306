use Rattle.sk_model.proofs.Sketch as laws
use Rattle.sk_model.proofs.laws.sketch.one_more.Goals as goal

pub returns : goal.returns
returns c = laws.one_more
