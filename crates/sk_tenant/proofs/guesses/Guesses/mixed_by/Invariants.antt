use Rattle.std.proofs.Common.{map}
use Rattle.sk_tenant.specs.Guesses.{AreGuesses}
use Rattle.sk_tenant.proofs.guesses.Guesses.mixed_by.Given as goal

abbrev pub invariant-name : goal.invariant-name
invariant-name l = AreGuesses (map (λ own. own.items) l.names.keys) l.by_mark.items
