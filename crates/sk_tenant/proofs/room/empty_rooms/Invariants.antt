use Rattle.std.proofs.Common.{◌≡◌, replicate}
use Rattle.sk_tenant.specs.Rooms.{empty_room}
use Rattle.sk_tenant.proofs.room.empty_rooms.Given as goal

abbrev pub invariant-room : goal.invariant-room
invariant-room l = l.rooms.items ≡ replicate l.counter (empty_room l.most)
