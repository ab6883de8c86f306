use Rattle.sk_cli.proofs.RankDeciding.{near_in_all}
use Rattle.sk_cli.proofs.laws.quantile_is_near.Goals as goal

pub returns : goal.returns
returns c = near_in_all
