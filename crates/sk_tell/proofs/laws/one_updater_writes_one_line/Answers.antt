use Rattle.sk_tell.proofs.OneUpdater.{one_line}
use Rattle.sk_tell.proofs.laws.one_updater_writes_one_line.Goals as goal

pub returns : goal.returns
returns c = one_line
