use Rattle.sk_model.proofs.Sketch as laws
use Rattle.sk_model.proofs.laws.sketch.rising_is.Goals as goal

pub returns : goal.returns
returns c = laws.rising_is
