use Rattle.std.proofs.Common.{◌*◌, ◌^◌, ◌≤◌}
use Rattle.sk_odds.specs.Odds.{falling}
use Rattle.sk_odds.proofs.factors.is_low.Given as goal

abbrev pub invariant-multiply : goal.invariant-multiply
invariant-multiply l = l.d * 1152921504606846976 * l.factor ^ l.i ≤ l.product * (4294967296 ^ l.i * falling l.k l.i)
