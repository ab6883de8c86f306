use Rattle.sk_model.proofs.Sketch as laws
use Rattle.sk_model.proofs.laws.sketch.theta_within.Goals as goal

pub returns : goal.returns
returns c = record { lower = laws.theta_to_positive; upper = laws.theta_within }
