use Rattle.std.proofs.Common.{◌<◌, take, All}
use Rattle.sk_model.proofs.plain.place_of.Given as goal

abbrev pub invariant-find : goal.invariant-find
invariant-find l = All (λ y. y < l.hash) (take l.at l.kept)
