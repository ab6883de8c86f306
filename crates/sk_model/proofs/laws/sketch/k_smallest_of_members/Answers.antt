use Rattle.sk_model.proofs.Sketch as laws
use Rattle.sk_model.proofs.laws.sketch.k_smallest_of_members.Goals as goal

pub returns : goal.returns
returns c = laws.k_smallest_of_members
