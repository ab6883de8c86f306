use Rattle.sk_machine.proofs.Coarse.{of_published_begins, lacks, lacks_known, lacks_kept}
use Rattle.sk_machine.proofs.laws.coarse.missing_is_bounded.Goals as goal

pub returns-clause-beginning : goal.returns-clause-beginning
returns-clause-beginning c = λ hint n m i ok inside. of_published_begins hint (m.sizes i) m.published m.stage i (m.updaters i) (ok.each i inside)

pub returns-clause-handed : goal.returns-clause-handed
returns-clause-handed c = lacks

pub returns-clause-known : goal.returns-clause-known
returns-clause-known c = lacks_known

pub returns-clause-kept : goal.returns-clause-kept
returns-clause-kept c = lacks_kept
