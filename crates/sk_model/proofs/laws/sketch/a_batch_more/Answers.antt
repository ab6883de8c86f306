use Rattle.sk_model.proofs.Sketch as laws
use Rattle.sk_model.proofs.laws.sketch.a_batch_more.Goals as goal

pub returns : goal.returns
returns c = laws.a_batch_more
