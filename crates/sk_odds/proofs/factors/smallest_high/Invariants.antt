use Rattle.std.proofs.Common.{◌-◌, ◌^◌, ◌≤◌}
use Rattle.sk_odds.specs.Bounds.{IsHigh, factor_parts}
use Rattle.sk_odds.proofs.factors.smallest_high.Given as goal

abbrev pub invariant-bisect : goal.invariant-bisect
invariant-bisect l = (l.below ≤ l.shown) × (l.shown ≤ 2 ^ 53) × IsHigh l.k l.d l.shown factor_parts

abbrev pub decreases-bisect : goal.decreases-bisect
decreases-bisect l = l.shown - l.below
