use Rattle.std.proofs.Common.{max, sym, ap, ◌∙◌}
use Rattle.uses.specs.Greatest.{greatest_of}
use Rattle.uses.proofs.Maximum.{with_batch}
use Rattle.uses.proofs.greatest.GreatestComposable.merge.Goals as goal

pub returns-clause-lists : goal.returns-clause-lists
returns-clause-lists g c = λ list is.
    c.greatest_from-self-inside.ensures.greatest
    ∙ ap (λ l. max c.self.inside.item (greatest_of l)) c.items.ensures.value
    ∙ ap (λ m. max m (greatest_of c.args.batch.now.items)) (c.self.view_is ∙ is)
    ∙ sym (with_batch list c.args._from c.args.batch.now.items)
