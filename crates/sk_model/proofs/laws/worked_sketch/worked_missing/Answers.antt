use Rattle.std.proofs.Common.{refl, [], ◌∷◌}
use Rattle.sk_model.proofs.laws.worked_sketch.worked_missing.Goals as goal

pub returns : goal.returns
returns c = record { one = (9 ∷ [], refl); none = λ behind. cc (behind.1) }
