use Rattle.std.proofs.Common.{◌≡◌, [], None, All, length}
use Rattle.sk_hub.proofs.opened.placeholders.Given as goal

abbrev pub invariant-parcel : goal.invariant-parcel
invariant-parcel g l = record {
  count : length l.parcels.items ≡ l.counter;
  empty : All (λ p. (p.buffer.items ≡ []) × (p.told ≡ None)) l.parcels.items;
  rooms : All (λ p. p.buffer.capacity ≡ 1) l.parcels.items;
}
