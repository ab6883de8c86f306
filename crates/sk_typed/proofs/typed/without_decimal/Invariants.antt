use Rattle.std.proofs.Common.{◌≡◌, ◌++◌, option_map, length}
use Rattle.sk_cli.specs.Options.{texts_of}
use Rattle.sk_typed.specs.Meanings.{without_decimal}
use Rattle.sk_typed.proofs.typed.without_decimal.Given as goal

abbrev pub invariant-word : goal.invariant-word
invariant-word l = without_decimal (texts_of l.words) ≡ option_map (λ found. (found.0, texts_of l.rest.items ++ found.1)) (without_decimal (texts_of l.ahead))

abbrev pub decreases-word : goal.decreases-word
decreases-word l = length l.ahead
