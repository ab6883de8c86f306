use Rattle.std.proofs.Common.{◌≡◌, ◌++◌, map}
use Rattle.sk_tenant.specs.Names.{AreDifferent, bytes_of}
use Rattle.sk_tenant.proofs.names.set_of.Given as goal

abbrev pub invariant-name : goal.invariant-name
invariant-name l = record {
  all : l.yielded ++ l.name-iterator.rest.items ≡ l.fn.names.items;
  names : map (λ name. name.items) l.set.keys ≡ bytes_of l.yielded;
  different : AreDifferent (map (λ name. name.items) l.set.keys);
}
