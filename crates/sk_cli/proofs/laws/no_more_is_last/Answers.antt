use Rattle.sk_cli.proofs.Schedules as schedules
use Rattle.sk_cli.proofs.laws.no_more_is_last.Goals as goal

pub returns : goal.returns
returns c = schedules.no_more_is_last
