use Rattle.sk_panes.specs.Panes.{pane_rules}
use Rattle.sk_cli.specs.declared.fault.Refusal.TheVariants.{Earlier}
use Rattle.sk_cli.proofs.Labelled.{labels_decide, one_labelled}
use Rattle.sk_cli.proofs.laws.window_decides.Goals as goal

pub returns-clause-decided : goal.returns-clause-decided
returns-clause-decided c = λ plan. labels_decide (pane_rules plan) Earlier

pub returns-clause-one_text : goal.returns-clause-one_text
returns-clause-one_text c = λ plan. one_labelled (pane_rules plan) Earlier
