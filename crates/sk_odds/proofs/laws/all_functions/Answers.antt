use Rattle.sk_odds.proofs.Listed as lemmas
use Rattle.sk_odds.proofs.laws.all_functions.Goals as goal

pub returns : goal.returns
returns c = record { count = lemmas.length-functions; within = lemmas.functions_within; each = lemmas.contains-functions }
