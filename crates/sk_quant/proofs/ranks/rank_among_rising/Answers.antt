use Rattle.std.proofs.Common.{ltb, sym, rules}
use Rattle.std.proofs.lemmas.List.Sorted.{IsPartitionPoint-from_clause, IsPartitionedBy-ltb}
use Rattle.sk_quant.proofs.Levels.{count_to_point}
use Rattle.sk_quant.proofs.ranks.rank_among_rising.Goals as goal

pub returns : goal.returns
returns c =
    let items = c.args.items.now in
    let x = c.args.x in
    let point = IsPartitionPoint-from_clause (λ y. ltb y x) items c.partition_point.result c.partition_point.ensures.partitioned (IsPartitionedBy-ltb (λ y. y) items x c.requires) (λ a r f h. search rules) in
    sym (count_to_point (λ y. ltb y x) items c.partition_point.result c.partition_point.ensures.bound point.0 point.1)
