use Rattle.sk_typed.proofs.Parts.{whole}
use Rattle.sk_typed.proofs.help.help_of.Goals as goal

pub returns-in-None : goal.returns-in-None
returns-in-None c = whole _
