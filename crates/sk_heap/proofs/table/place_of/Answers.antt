use Rattle.sk_heap.proofs.Probes.{is_absent}
use Rattle.sk_heap.proofs.table.place_of.Goals as goal

pub unreachable-requires : goal.unreachable-requires
unreachable-requires c = is_absent c.args.table.now c.args.hash c.in_default.field-0 c.requires.probed c.in_default.ensures.empty c.requires.holds
