use Rattle.std.proofs.Common.{◌≡◌, ◌+◌, ◌≤◌, ◌++◌, List, ℕ, length, All, option_map, option_copied}
use Rattle.sk_model.specs.Limits.{IsFrom}
use Rattle.sk_cli.specs.Values.{numbers_from, parts_of, parts_in}
use Rattle.sk_cli.proofs.values.number_list.Given as goal

abbrev pub invariant-part : goal.invariant-part
invariant-part l = record {
  numbers : numbers_from l.low l.high (parts_of l.word) ≡ option_map (λ (ns : List ℕ). l.numbers ++ ns) (numbers_from l.low l.high (parts_in (option_copied l.rest)));
  few : length l.numbers ≤ l.most;
  within : All (IsFrom l.low l.high) l.numbers;
  count : length (parts_of l.word) ≡ length l.numbers + length (parts_in (option_copied l.rest));
}

abbrev pub decreases-part : goal.decreases-part
decreases-part l = length (parts_in (option_copied l.rest))
