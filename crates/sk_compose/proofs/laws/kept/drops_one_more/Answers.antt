use Rattle.sk_compose.proofs.Kept as lemmas
use Rattle.sk_compose.proofs.laws.kept.drops_one_more.Goals as goal

pub returns : goal.returns
returns c = lemmas.drops_last
