use Rattle.std.proofs.Common.{◌-◌, ◌^◌, ◌≤◌}
use Rattle.sk_odds.specs.Bounds.{IsLow, factor_parts}
use Rattle.sk_odds.proofs.factors.largest_low.Given as goal

abbrev pub invariant-bisect : goal.invariant-bisect
invariant-bisect l = (l.shown ≤ l.above) × (l.above ≤ 2 ^ 53) × IsLow l.k l.d l.shown factor_parts

abbrev pub decreases-bisect : goal.decreases-bisect
decreases-bisect l = l.above - l.shown
