use Rattle.std.proofs.Common.{◌≡◌, vec_len, vec_capacity}
use Rattle.sk_tenant.proofs.Rooms.{AreDrainedOf}
use Rattle.sk_tenant.proofs.room.Room.drain_into.Given as goal

abbrev pub invariant-first : goal.invariant-first
invariant-first g l = record {
  drained : AreDrainedOf l.fn.heart l.fn.self.items l.self-inside.updaters.items l.heart;
  most : vec_capacity l.self-inside.updaters ≡ l.fn.self.most;
}

abbrev pub decreases-first : goal.decreases-first
decreases-first g l = vec_len l.self-inside.updaters
