use Rattle.std.proofs.Common.{◌-◌, ◌+◌, ◌<◌}
use Rattle.sk_read.specs.ShortNumbers.{AreDense}
use Rattle.sk_read.proofs.short_numbers.are_short_numbers.Given as goal

abbrev pub invariant-block : goal.invariant-block
invariant-block l = 0 < l.at → AreDense l.run 0 (l.at + 14)

abbrev pub decreases-block : goal.decreases-block
decreases-block l = l.last - l.at
