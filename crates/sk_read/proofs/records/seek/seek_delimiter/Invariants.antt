use Rattle.std.proofs.Common.{◌-◌, length}
use Rattle.sk_read.specs.Delimiters.{IsDelimiter}
use Rattle.sk_read.proofs.DelimiterLaws.{IsNowhere}
use Rattle.sk_read.proofs.records.seek.seek_delimiter.Given as goal

abbrev pub invariant-wide : goal.invariant-wide
invariant-wide l = IsNowhere IsDelimiter l.text l.from l.at

abbrev pub decreases-wide : goal.decreases-wide
decreases-wide l = length l.text - l.at
