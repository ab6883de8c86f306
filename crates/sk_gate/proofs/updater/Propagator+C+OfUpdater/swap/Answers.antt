use Rattle.std.proofs.Common.{◌∙◌, [], ap, inr}
use Rattle.sk_gate.specs.Slots.{contents}
use Rattle.sk_gate.proofs.updater.Propagator+C+OfUpdater.swap.Goals as goal

pub exchange_own-requires-clause-fits : goal.exchange_own-requires-clause-fits
exchange_own-requires-clause-fits g c = inr (c.requires.batch, c.len-count.ensures.whole.items_fit, c.requires.few, c.requires.capacity)

pub returns-clause-empty : goal.returns-clause-empty
returns-clause-empty g c = c.exchange_own.ensures.empty ∙ ap (contents []) c.requires.room
