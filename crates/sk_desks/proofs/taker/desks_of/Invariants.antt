use Rattle.std.proofs.Common.{◌≡◌, ◌++◌, map}
use Rattle.sk_desks.proofs.taker.desks_of.Given as goal

abbrev pub invariant-taker : goal.invariant-taker
invariant-taker l = record {
  moved : l.desks.items ≡ map (λ t. t.desk) l.yielded;
  all : l.yielded ++ l.taker-iterator.rest.items ≡ l.fn.takers.items;
}
