use Rattle.std.proofs.Common.{◌≡◌, replicate}
use Rattle.sk_tenant.specs.Rooms.{lists_in, sizes_of}
use Rattle.sk_tenant.specs.Openings.{AreNewHubs}
use Rattle.sk_tenant.proofs.opening.open_hubs.Given as goal

abbrev pub invariant-tenant : goal.invariant-tenant
invariant-tenant l = record {
  hubs : AreNewHubs l.shape l.counter l.hearts.items (lists_in l.rooms.items);
  sizes : sizes_of l.rooms.items ≡ replicate l.shape.n l.count;
}
