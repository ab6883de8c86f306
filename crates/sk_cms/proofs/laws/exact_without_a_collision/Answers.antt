use Rattle.sk_cms.proofs.Estimates as lemmas
use Rattle.sk_cms.proofs.laws.exact_without_a_collision.Goals as goal

pub returns : goal.returns
returns c = lemmas.exact_if_alone
