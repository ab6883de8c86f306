use Rattle.std.proofs.Common.{◌≡◌, ◌≤◌, List, length, get_or}
use Rattle.sk_hub.specs.Updaters.{UpdaterState}
use Rattle.sk_feed.specs.Drained.{DrainsAll}
use Rattle.sk_tenant.specs.Rooms.{empty_room, lists_in}
use Rattle.sk_tenant.proofs.FromEnd.{ChangedFrom}
use Rattle.sk_tenant.proofs.draining.drain_rooms.Given as goal

abbrev pub invariant-last : goal.invariant-last
invariant-last g l = record {
  within : l.left ≤ length l.initial.hearts;
  drained : ChangedFrom (λ t h h'. (us : List UpdaterState) → DrainsAll h (get_or (lists_in l.initial.rooms) t us) h') l.left l.initial.hearts l.hearts;
  rooms : ChangedFrom (λ t room room'. room' ≡ empty_room room.most) l.left l.initial.rooms l.rooms;
}

abbrev pub decreases-last : goal.decreases-last
decreases-last g l = l.left
