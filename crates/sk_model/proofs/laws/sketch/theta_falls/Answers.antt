use Rattle.sk_model.proofs.Sketch as laws
use Rattle.sk_model.proofs.laws.sketch.theta_falls.Goals as goal

pub returns : goal.returns
returns c = laws.theta_falls
