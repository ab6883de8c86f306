use Rattle.std.proofs.Common.{◌≡◌, vec_len}
use Rattle.sk_base_calls.proofs.tests.quantiles.numbers.Given as goal

abbrev pub invariant-push : goal.invariant-push
invariant-push l = vec_len l.items ≡ l.i
