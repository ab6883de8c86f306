use Rattle.std.proofs.Common.{refl}
use Rattle.sk_read.proofs.PartLaws.{drop_given}
use Rattle.sk_read.proofs.records.parts.Parts.drop_whole.Goals as goal

pub returns-clause-given : goal.returns-clause-given
returns-clause-given c = λ rows taken has. drop_given c.args.self.now _ rows taken has c.drop_front.ensures refl refl refl refl refl
