use Rattle.sk_machine.proofs.Shown.{shown_by}
use Rattle.sk_machine.proofs.laws.shown.shown_by.Goals as goal

pub returns : goal.returns
returns c = shown_by
