use Rattle.std.proofs.Common.{◌<◌, arith}
use Rattle.std.proofs.lemmas.List.Elements.{All-more}
use Rattle.sk_model.proofs.plain.place_of.Goals as goal

pub find-preserved : goal.find-preserved
find-preserved c = All-more (λ y. y < c.args.hash) c.args.kept.now c.find.at 0 (omega arith) c.find.invariant (omega arith)
