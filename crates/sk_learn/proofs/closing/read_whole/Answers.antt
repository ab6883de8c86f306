use Rattle.std.proofs.Common.{sym, ◌∙◌}
use Rattle.sk_snap.specs.History.{entries_in}
use Rattle.sk_snap.proofs.Versions.{as_many}
use Rattle.sk_learn.proofs.closing.read_whole.Goals as goal

pub returns-in-Ok-clause-total : goal.returns-in-Ok-clause-total
returns-in-Ok-clause-total g c = sym (as_many (entries_in c.read.new.self.known)) ∙ c.in-Ok.ensures.gives.0
