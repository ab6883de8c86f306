use Rattle.sk_machine.proofs.Parts.{lacks_handed, lacks_of_token, lacks_kept}
use Rattle.sk_machine.proofs.laws.fine.missing_is_bounded.Goals as goal

pub returns-clause-handed : goal.returns-clause-handed
returns-clause-handed c = lacks_handed

pub returns-clause-known : goal.returns-clause-known
returns-clause-known c = lacks_of_token

pub returns-clause-kept : goal.returns-clause-kept
returns-clause-kept c = lacks_kept
