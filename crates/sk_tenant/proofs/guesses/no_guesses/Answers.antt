use Rattle.std.proofs.Common.{rules}
use Rattle.sk_tenant.proofs.Guessing.{none_guessed}
use Rattle.sk_tenant.proofs.guesses.no_guesses.Goals as goal

pub returns : goal.returns
returns c = λ names. none_guessed names _ _ (c.in_ok-vec.ensures.items_if_clones_equal (λ y is. search rules)) c.of_none.ensures
