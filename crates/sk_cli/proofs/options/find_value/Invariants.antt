use Rattle.std.proofs.Common.{◌≡◌, length, IsSome}
use Rattle.sk_cli.specs.Options.{options_of, texts_of, value_behind, given_in}
use Rattle.sk_cli.proofs.options.find_value.Given as goal

abbrev pub invariant-option : goal.invariant-option
invariant-option l = record {
  spelled : IsSome (options_of l.verb (texts_of l.rest));
  behind : value_behind l.name (given_in l.verb (texts_of l.words)) ≡ value_behind l.name (given_in l.verb (texts_of l.rest));
}

abbrev pub decreases-option : goal.decreases-option
decreases-option l = length l.rest
