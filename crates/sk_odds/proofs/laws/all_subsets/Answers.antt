use Rattle.sk_odds.proofs.Listed as lemmas
use Rattle.sk_odds.proofs.laws.all_subsets.Goals as goal

pub returns : goal.returns
returns c = record { within = lemmas.subsets_within; each = lemmas.contains-subsets; once = lemmas.subsets_once }
