use Rattle.sk_compose.proofs.Kept as lemmas
use Rattle.sk_compose.proofs.laws.kept.kept_are_few.Goals as goal

pub returns : goal.returns
returns c = lemmas.kept_few
