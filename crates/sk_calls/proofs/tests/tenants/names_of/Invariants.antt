use Rattle.std.proofs.Common.{◌≡◌, vec_len}
use Rattle.sk_calls.proofs.tests.tenants.names_of.Given as goal

abbrev pub invariant-text : goal.invariant-text
invariant-text l = vec_len l.names ≡ l.text-index
