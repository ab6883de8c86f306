use Rattle.sk_count.proofs.BoundLaws.{bounded}
use Rattle.sk_count.proofs.laws.interim_lists_are_bounded.Goals as goal

pub returns : goal.returns
returns c = λ plan units board board' remains text exactly. bounded plan units board board' remains text exactly
