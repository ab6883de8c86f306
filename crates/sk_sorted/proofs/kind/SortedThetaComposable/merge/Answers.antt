use Rattle.sk_model.specs.Entries.{items_of_entries}
use Rattle.sk_compose.proofs.Batches.{items_more}
use Rattle.sk_sorted.proofs.kind.SortedThetaComposable.merge.Goals as goal

pub returns-clause-lists : goal.returns-clause-lists
returns-clause-lists g c =
    λ list stands. rw (items_more c.args._from list c.args.batch.now.items) (rw c.items.ensures.value at (c.merge.ensures.stands (items_of_entries list) stands))
