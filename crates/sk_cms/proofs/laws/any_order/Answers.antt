use Rattle.sk_cms.proofs.Estimates as lemmas
use Rattle.sk_cms.proofs.laws.any_order.Goals as goal

pub returns : goal.returns
returns c = record { times = lemmas.times-IsPermutation; least = lemmas.least_of-IsPermutation }
