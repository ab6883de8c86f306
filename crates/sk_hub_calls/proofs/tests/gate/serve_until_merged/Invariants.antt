use Rattle.std.proofs.Common.{◌≡◌, ◌<◌, length, false}
use Rattle.sk_gate.specs.Views.{leads}
use Rattle.sk_hub_calls.proofs.tests.gate.serve_until_merged.Given as goal

abbrev pub invariant-turn : goal.invariant-turn
invariant-turn g l = (leads l.heart.view.duty ≡ false) × (0 < length l.heart.view.sizes)
