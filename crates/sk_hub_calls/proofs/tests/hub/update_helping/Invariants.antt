use Rattle.std.proofs.Common.{◌≡◌}
use Rattle.sk_hub_calls.proofs.tests.hub.update_helping.Given as goal

abbrev pub invariant-turn : goal.invariant-turn
invariant-turn g l = l.updater.table ≡ l.fn.updater.table
