use Rattle.std.proofs.Common.{arith, ◌≡◌, [], length, refl, ap}
use Rattle.sk_model.specs.Entries.{items_of_entries}
use Rattle.sk_base_calls.proofs.tests.kinds.a_refused_batch_is_merged_when_it_comes_again.Goals as goal

pub merge-requires-2 : goal.merge-requires-2
unfolding items_of_entries
merge-requires-2 g c =
    let three : length c.in_ok-batch.batch.items ≡ 3 = ap length c.in_ok-batch.ensures.items in
    record { few = ([], (c.in-Err.ensures.refused []).0 (c.in_ok-new.ensures.stands, refl), omega (arith, three)) }
