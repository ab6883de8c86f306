use Rattle.std.proofs.Common.{subst}
use Rattle.sk_theta.specs.Kept.{StandsFor}
use Rattle.sk_compose.proofs.Batches.{items_more}
use Rattle.sk_model.specs.Entries.{items_of_entries}
use Rattle.sk_tenant.specs.Sketches.{sketch_of}
use Rattle.sk_tenant.proofs.sketch.TenantThetaComposable.merge.Goals as goal

pub returns-in-Sorted-clause-lists : goal.returns-in-Sorted-clause-lists
returns-in-Sorted-clause-lists g c = λ list stands.
    let before = subst (λ t. StandsFor (sketch_of t) (items_of_entries list)) c.in-Sorted.is stands in
    rw (items_more c.args._from list c.args.batch.now.items) (rw c.items.ensures.value at (c.merge.ensures.stands (items_of_entries list) before))

pub returns-in-Heap-clause-lists : goal.returns-in-Heap-clause-lists
returns-in-Heap-clause-lists g c = λ list stands.
    let before = subst (λ t. StandsFor (sketch_of t) (items_of_entries list)) c.in-Heap.is stands in
    rw (items_more c.args._from list c.args.batch.now.items) (rw c.items-in-Heap.ensures.value at (c.merge-in-Heap.ensures.stands (items_of_entries list) before))
