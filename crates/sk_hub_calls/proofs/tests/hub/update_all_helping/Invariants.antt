use Rattle.std.proofs.Common.{◌≡◌}
use Rattle.sk_hub_calls.proofs.tests.hub.update_all_helping.Given as goal

abbrev pub invariant-item : goal.invariant-item
invariant-item g l = l.updater.table ≡ l.fn.updater.table
