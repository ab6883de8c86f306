use Rattle.std.proofs.Common.{◌≡◌, ◌++◌, map}
use Rattle.sk_desks.proofs.taker.takers_of.Given as goal

abbrev pub invariant-desk : goal.invariant-desk
invariant-desk l = record {
  moved : map (λ t. t.desk) l.takers.items ≡ l.yielded;
  all : l.yielded ++ l.desk-iterator.rest.items ≡ l.fn.desks.items;
}
