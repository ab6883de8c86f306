use Rattle.std.proofs.Common.{length, sym, ap, ◌∙◌}
use Rattle.sk_gate.specs.Views.{mine_of}
use Rattle.uses.proofs.feeding.feed_some.Goals as goal

pub returns-clause-waits : goal.returns-clause-waits
returns-clause-waits g c = λ fewer.
    let stop = c.update_each.ensures.stops fewer in let look = stop.busy.look in (
      ap (λ z. length z.fill) look.state ∙ stop.busy.full ∙ sym (ap (λ z. z.size) look.state),
      ap (λ z. (mine_of z.view).ready) look.state ∙ look.unready,
    )
