use Rattle.sk_compose.proofs.Kept as lemmas
use Rattle.sk_compose.proofs.laws.kept.keeps_one_more.Goals as goal

pub returns : goal.returns
returns c = lemmas.keeps_last
