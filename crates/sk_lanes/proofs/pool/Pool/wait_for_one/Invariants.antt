use Rattle.std.proofs.Common.{◌≡◌}
use Rattle.sk_lanes.proofs.pool.Pool.wait_for_one.Given as goal

abbrev pub invariant-wait : goal.invariant-wait
invariant-wait g l = l.self.most ≡ l.initial.self.most
