use Rattle.sk_serve.proofs.Conclusions.{shares_list}
use Rattle.sk_serve.proofs.laws.sessions_share_a_list.Goals as goal

pub returns : goal.returns
returns c = shares_list
