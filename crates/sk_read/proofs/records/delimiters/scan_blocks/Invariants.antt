use Rattle.std.proofs.Common.{◌-◌, length}
use Rattle.sk_read.specs.Delimiters.{Knows}
use Rattle.sk_read.proofs.records.delimiters.scan_blocks.Given as goal

abbrev pub invariant-block : goal.invariant-block
invariant-block l = Knows l.text l.at (record { scanned = l.scanned; marks = 0 })

abbrev pub decreases-block : goal.decreases-block
decreases-block l = length l.text - l.scanned
