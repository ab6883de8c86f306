use Rattle.std.proofs.Common.{◌*◌, ◌^◌, ◌≤◌}
use Rattle.sk_odds.specs.Odds.{climbing}
use Rattle.sk_odds.proofs.factors.is_high.Given as goal

abbrev pub invariant-multiply : goal.invariant-multiply
invariant-multiply l = l.d * 1152921504606846976 * (4294967296 ^ l.i * climbing l.k l.i) ≤ l.product * l.factor ^ l.i
