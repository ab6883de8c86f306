use Rattle.sk_desks.specs.Desks.{desk_rules}
use Rattle.sk_cli.specs.declared.fault.Refusal.TheVariants.{Unknown}
use Rattle.sk_cli.proofs.Labelled.{labels_decide, one_labelled}
use Rattle.sk_cli.proofs.laws.tenants_decides.Goals as goal

pub returns-clause-decided : goal.returns-clause-decided
returns-clause-decided c = λ plan. labels_decide (desk_rules plan.desks plan.names) Unknown

pub returns-clause-one_text : goal.returns-clause-one_text
returns-clause-one_text c = λ plan. one_labelled (desk_rules plan.desks plan.names) Unknown
