use Rattle.std.proofs.Common.{◌≡◌, length, length-append, arith}
use Rattle.std.proofs.lemmas.List.{length-map}
use Rattle.sk_model.specs.Entries.{items_of_entries, tagged}
use Rattle.sk_compose.proofs.Batches.{items_more}
use Rattle.sk_base_calls.proofs.tests.kinds.TellerComposable.merge.Goals as goal

pub returns-clause-lists : goal.returns-clause-lists
returns-clause-lists g c = λ list is.
    let batch = c.args.batch.now.items in
    let more : length (tagged c.args._from batch) ≡ length batch = length-map batch (λ item. (c.args._from, item)) in (
      rw (items_more c.args._from list batch) (rw c.items.ensures.value at (c.merge.ensures.stands (items_of_entries list) is.0)),
      omega (arith, length-append list (tagged c.args._from batch), more, is.1, c.len.ensures.value, c.from.ensures),
    )
