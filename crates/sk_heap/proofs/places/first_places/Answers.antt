use Rattle.std.proofs.Common.{refl}
use Rattle.sk_heap.proofs.places.first_places.Goals as goal

pub returns-else-places-lt-LEAST-clause-power : goal.returns-else-places-lt-LEAST-clause-power
returns-else-places-lt-LEAST-clause-power c = (3, refl)
