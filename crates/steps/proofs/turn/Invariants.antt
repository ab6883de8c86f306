-- Between two turns the seat does not propagate.
use Rattle.std.proofs.Common.{◌≡◌, false}
use Rattle.sk_gate.specs.Views.{leads}
use Rattle.steps.proofs.turn.Given as goal

abbrev pub invariant-turn : goal.invariant-turn
invariant-turn l = leads l.heart.view.duty ≡ false
