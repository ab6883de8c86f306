use Rattle.std.proofs.Common.{◌≡◌, ◌+◌, ◌≤◌, length, option_copied}
use Rattle.sk_cli.specs.Names.{are_names}
use Rattle.sk_cli.specs.Values.{parts_of, parts_in}
use Rattle.sk_cli.proofs.names.joins_names.Given as goal

abbrev pub invariant-part : goal.invariant-part
invariant-part l = record {
  names : are_names (parts_of l.word) ≡ are_names (parts_in (option_copied l.rest));
  count : length (parts_of l.word) ≡ l.count + length (parts_in (option_copied l.rest));
  few : l.count ≤ 64;
}

abbrev pub decreases-part : goal.decreases-part
decreases-part l = length (parts_in (option_copied l.rest))
