use Rattle.std.proofs.Common.{refl, [], ◌∷◌}
use Rattle.sk_model.specs.Entries.{entries_by, items_of_entries}
use Rattle.sk_count.proofs.laws.worked_sizes.Goals as goal

pub returns : goal.returns
unfolding entries_by items_of_entries
returns c = record { three = (2 ∷ [], refl); none_seen = λ behind. cc (behind.1); last = refl }
