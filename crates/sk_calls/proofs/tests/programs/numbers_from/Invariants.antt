use Rattle.std.proofs.Common.{◌≡◌, ◌+◌, length}
use Rattle.sk_model.specs.Width.{AreItems}
use Rattle.sk_calls.proofs.tests.programs.numbers_from.Given as goal

abbrev pub invariant-number : goal.invariant-number
invariant-number l = record {
  items : AreItems l.numbers.items;
  count : length l.numbers.items + l.first ≡ l.number;
}
