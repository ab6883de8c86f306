use Rattle.std.proofs.Common.{◌+◌, ◌≤◌, vec_capacity}
use Rattle.sk_quant.proofs.Merges.{IsMerging}
use Rattle.sk_quant.proofs.compaction.merge.Given as goal

abbrev pub invariant-merge : goal.invariant-merge
invariant-merge l = record {
  merging : IsMerging l.others l.fn.items.items l.items.items l.left l.right;
  room : vec_capacity l.fn.items ≤ vec_capacity l.items;
}

abbrev pub decreases-merge : goal.decreases-merge
decreases-merge l = l.left + l.right
