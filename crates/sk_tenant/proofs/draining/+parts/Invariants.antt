use Rattle.std.proofs.Common.{◌*◌, ◌+◌}
use Rattle.sk_tenant.proofs.draining.+parts.Given as goal

abbrev pub decreases-drain_parts : goal.decreases-drain_parts
decreases-drain_parts g l = 3 * l.threads

abbrev pub decreases-drain_both : goal.decreases-drain_both
decreases-drain_both g l = 3 * l.threads + 2

abbrev pub decreases-drain_both-join_mut+arg2 : goal.decreases-drain_both-join_mut+arg2
decreases-drain_both-join_mut+arg2 g l = 3 * l.threads + 1

abbrev pub decreases-drain_both-join_mut+arg3 : goal.decreases-drain_both-join_mut+arg3
decreases-drain_both-join_mut+arg3 g l = 3 * l.threads + 1
