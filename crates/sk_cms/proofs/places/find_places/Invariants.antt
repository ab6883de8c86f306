use Rattle.std.proofs.Common.{◌≡◌, ◌*◌, flat_map, take, vec_len, vec_capacity}
use Rattle.sk_cms.specs.Places.{places_of}
use Rattle.sk_cms.proofs.places.find_places.Given as goal

abbrev pub invariant-item : goal.invariant-item
invariant-item l = record {
  places : l.places.items ≡ flat_map (places_of l.rows l.width) (take l.x-index l.items);
  len : vec_len l.places ≡ l.x-index * l.rows;
  capacity : vec_capacity l.places ≡ l.count;
}
