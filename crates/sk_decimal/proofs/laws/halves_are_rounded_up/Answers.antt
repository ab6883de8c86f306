use Rattle.sk_decimal.proofs.Halves.{nearest_below, nearest_above, nearest_only}
use Rattle.sk_decimal.proofs.laws.halves_are_rounded_up.Goals as goal

pub returns-clause-below : goal.returns-clause-below
returns-clause-below c = nearest_below

pub returns-clause-above : goal.returns-clause-above
returns-clause-above c = nearest_above

pub returns-clause-only : goal.returns-clause-only
returns-clause-only c = nearest_only
