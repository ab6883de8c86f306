use Rattle.sk_cli.proofs.StatusLaws.{status_shows}
use Rattle.sk_cli.proofs.laws.a_status_shows_how_a_run_ended.Goals as goal

pub returns : goal.returns
returns c = status_shows
