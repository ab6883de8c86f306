use Rattle.std.proofs.Common.{◌≡◌, ◌+◌, ◌++◌, vec_len, vec_capacity}
use Rattle.sk_cms.specs.Places.{places_of}
use Rattle.sk_cms.proofs.places.push_rows.Given as goal

abbrev pub invariant-row : goal.invariant-row
invariant-row l = record {
  places : l.places.items ≡ l.initial.places.items ++ places_of l.r l.width l.x;
  len : vec_len l.places ≡ vec_len l.initial.places + l.r;
  capacity : vec_capacity l.places ≡ vec_capacity l.initial.places;
}
