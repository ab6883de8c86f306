use Rattle.sk_cli.proofs.ToldItems as told
use Rattle.sk_cli.specs.commands.Image.{image_of}
use Rattle.sk_cli.proofs.laws.image_decides.Goals as goal

pub returns-clause-decided : goal.returns-clause-decided
returns-clause-decided c = λ plan. told.items_decide plan.what.kind plan.what.column (image_of plan)

pub returns-clause-one_text : goal.returns-clause-one_text
returns-clause-one_text c = λ plan. told.one_telling plan.what.kind plan.what.column (image_of plan)
