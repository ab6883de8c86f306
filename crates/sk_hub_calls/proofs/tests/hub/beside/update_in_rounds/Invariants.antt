use Rattle.std.proofs.Common.{◌≡◌}
use Rattle.sk_hub_calls.proofs.tests.hub.beside.update_in_rounds.Given as goal

abbrev pub invariant-round : goal.invariant-round
invariant-round g l = l.updater.table ≡ l.heart.table
