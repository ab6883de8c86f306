use Rattle.std.proofs.Common.{◌∷◌, []}
use Rattle.sk_feed.proofs.Done.{DoneTo}
use Rattle.sk_lanes.proofs.RingLaws.{Gave}
use Rattle.sk_lanes.proofs.supply.give_each.Given as goal

abbrev pub invariant-outlet : goal.invariant-outlet
invariant-outlet g l = DoneTo (Gave (l.delivery ∷ [])) l.fn.outlets.items l.outlets.items l.i
