use Rattle.sk_model.specs.Width.{AreItems}
use Rattle.sk_calls.proofs.tests.programs.falling.Given as goal

abbrev pub invariant-number : goal.invariant-number
invariant-number l = AreItems l.numbers.items
