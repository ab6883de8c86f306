use Rattle.std.proofs.Common.{◌≡◌, length, IsSome}
use Rattle.sk_cli.specs.Options.{options_of, texts_of, is_once, given_in}
use Rattle.sk_cli.proofs.options.are_once.Given as goal

abbrev pub invariant-option : goal.invariant-option
invariant-option l = record {
  spelled : IsSome (options_of l.verb (texts_of l.rest));
  once : is_once (given_in l.verb (texts_of l.words)) ≡ is_once (given_in l.verb (texts_of l.rest));
}

abbrev pub decreases-option : goal.decreases-option
decreases-option l = length l.rest
