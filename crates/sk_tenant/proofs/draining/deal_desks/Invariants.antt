use Rattle.std.proofs.Common.{◌≡◌, ◌++◌, length, All}
use Rattle.sk_tenant.specs.Rooms.{lists_in, sizes_of}
use Rattle.sk_tenant.specs.Drainings.{HasAllTenants, AreByTenant}
use Rattle.sk_tenant.proofs.draining.deal_desks.Given as goal

abbrev pub invariant-desk : goal.invariant-desk
invariant-desk l = record {
  all : l.yielded ++ l.desk-iterator.rest.items ≡ l.fn.desks.items;
  by : AreByTenant (length l.fn.rooms.items) l.yielded (lists_in l.rooms.items);
  sizes : sizes_of l.rooms.items ≡ sizes_of l.fn.rooms.items;
  each : All (HasAllTenants (length l.fn.rooms.items)) l.yielded;
}
