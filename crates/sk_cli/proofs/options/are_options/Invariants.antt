use Rattle.std.proofs.Common.{◌≡◌, length, is_some}
use Rattle.sk_cli.specs.Options.{options_of, texts_of}
use Rattle.sk_cli.proofs.options.are_options.Given as goal

abbrev pub invariant-option : goal.invariant-option
invariant-option l = is_some (options_of l.verb (texts_of l.words)) ≡ is_some (options_of l.verb (texts_of l.rest))

abbrev pub decreases-option : goal.decreases-option
decreases-option l = length l.rest
