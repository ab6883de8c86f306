use Rattle.std.proofs.Common.{◌≡◌, map}
use Rattle.sk_gate.specs.Slots.{full}
use Rattle.sk_gate.proofs.start.first_slots.Given as goal

abbrev pub invariant-parcel : goal.invariant-parcel
invariant-parcel g l = l.slots.items ≡ map (λ p. full p) l.yielded
