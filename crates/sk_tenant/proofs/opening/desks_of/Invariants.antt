use Rattle.std.proofs.Common.{◌≡◌, ◌++◌, map}
use Rattle.sk_tenant.specs.Openings.{AreDesksOf}
use Rattle.sk_tenant.proofs.opening.desks_of.Given as goal

abbrev pub invariant-room : goal.invariant-room
invariant-room l = record {
  all : l.yielded ++ l.room-iterator.rest.items ≡ l.fn.rooms.items;
  desks : AreDesksOf l.fn.names l.fn.quota (map (λ room. room.items) l.yielded) l.desks.items;
}
