use Rattle.sk_rank.specs.Plans.{rank_manner}
use Rattle.sk_cli.specs.Beside.{RankingHub}
use Rattle.sk_cli.specs.commands.Quantile.{LeavesRanks}
use Rattle.sk_cli.proofs.MannerDeciding.{manner_decides}
use Rattle.sk_cli.proofs.RankDeciding as deciding
use Rattle.sk_cli.proofs.laws.quantile_decides.Goals as goal

pub returns-clause-decided : goal.returns-clause-decided
returns-clause-decided c = λ plan. manner_decides (rank_manner plan) RankingHub (LeavesRanks plan)

pub returns-clause-one_text : goal.returns-clause-one_text
returns-clause-one_text c = deciding.one_rank

pub returns-clause-one_line : goal.returns-clause-one_line
returns-clause-one_line c = deciding.one_line
