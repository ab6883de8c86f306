-- The seat has the turn, and the trunk lies in its slot.
use Rattle.std.proofs.Common.{◌≡◌, true, false}
use Rattle.sk_gate.specs.Views.{leads}
use Rattle.steps.proofs.exchange.Given as goal

abbrev pub invariant-exchange : goal.invariant-exchange
invariant-exchange l = (leads l.heart.view.duty ≡ true) × (l.heart.filled ≡ false) × (l.heart.lifted ≡ false)
