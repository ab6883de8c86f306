use Rattle.std.proofs.Common.{sym, ◌∙◌}
use Rattle.sk_snap.proofs.versioned.next_batch.Goals as goal

pub returns-then-is-clause-continues : goal.returns-then-is-clause-continues
returns-then-is-clause-continues g c = c.requires.refused c.in-Some.batch (sym c.take.ensures.value ∙ c.in-Some.is)
