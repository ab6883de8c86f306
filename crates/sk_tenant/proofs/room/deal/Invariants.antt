use Rattle.std.proofs.Common.{◌≡◌, ◌++◌, ◌∷◌, [], length, get_or, vec_len}
use Rattle.sk_model.specs.Missing.{Begins}
use Rattle.sk_hub.specs.Updaters.{UpdaterState}
use Rattle.sk_tenant.specs.Rooms.{lists_in, sizes_of}
use Rattle.sk_tenant.proofs.FromEnd.{ChangedFrom}
use Rattle.sk_tenant.proofs.room.deal.Given as goal

abbrev pub invariant-last : goal.invariant-last
invariant-last l = record {
  left : Begins l.updaters.items l.fn.updaters.items;
  dealt : ChangedFrom (λ i old new. (u : UpdaterState) → new ≡ old ++ get_or l.fn.updaters.items i u ∷ []) (length l.updaters.items) (lists_in l.fn.rooms.items) (lists_in l.rooms.items);
  most : sizes_of l.rooms.items ≡ sizes_of l.fn.rooms.items;
}

abbrev pub decreases-last : goal.decreases-last
decreases-last l = vec_len l.updaters
